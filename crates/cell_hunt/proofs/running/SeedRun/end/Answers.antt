use Rattle.std.proofs.Common.{subst}
use Rattle.std.specs.Prelude.{Option}
use Rattle.cell_machine.specs.declared.status.End.{End}
use Rattle.cell_machine.specs.Run.{EndsAs}
use Rattle.cell_machine.proofs.Runs.{not_open}
use Rattle.cell_hunt.proofs.running.SeedRun.end.Goals as goal

pub unreachable-requires : goal.unreachable-requires
unreachable-requires c =
    not_open c.self.inside.machine (subst (λ (o : Option End). EndsAs c.self.inside.machine o) c.in_default.is c.end.ensures) c.self.invariant.0.over
