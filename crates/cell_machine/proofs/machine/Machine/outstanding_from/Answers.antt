use Rattle.std.proofs.Common.{◌≡◌, length, ap, arith, subst, sym}
use Rattle.cell_machine.specs.Kept.{IsKept}
use Rattle.cell_machine.specs.Run.{Ran}
use Rattle.cell_machine.specs.declared.processor.Processor.{Processor}
use Rattle.cell_machine.proofs.Replays.{machine-spe, machine-kept}
use Rattle.cell_machine.proofs.machine.Machine.outstanding_from.Goals as goal

pub outstanding_from-requires : goal.outstanding_from-requires
outstanding_from-requires c =
    let count : length c.self.inside.setup.entries ≡ length c.args.self.now.setup.entries = ap (λ (n : Ran). length n.setup.entries) c.self.view_is in
    subst (λ (x : Processor). IsKept x.commands.queue) (sym c.index.ensures) (machine-kept c.self.invariant.0 c.args.spe _ (omega (arith, c.self.invariant.0.count)))

pub returns : goal.returns
returns c = machine-spe _ _ _ _ _ c.args.spe _ _ c.self.invariant.0 c.self.view_is c.requires c.index.ensures (λ P shows. c.outstanding_from.ensures P shows)
