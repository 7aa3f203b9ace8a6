use Rattle.std.proofs.Common.{sym, ◌∙◌}
use Rattle.cell_machine.proofs.Replays.{machine-spe}
use Rattle.cell_machine.proofs.machine.Machine.registers.Goals as goal

pub returns-clause-all : goal.returns-clause-all
returns-clause-all c = machine-spe _ _ _ _ _ c.args.spe _ _ c.self.invariant.0 c.self.view_is c.requires c.index-processor.ensures (λ P shows. shows.registers ∙ sym c.quads.ensures.all)
