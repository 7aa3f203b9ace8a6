use Rattle.cell_machine.proofs.Replays.{machine-spe}
use Rattle.cell_machine.proofs.machine.Machine.queued_number.Goals as goal

pub returns : goal.returns
returns c = machine-spe _ _ _ _ _ c.args.spe _ _ c.self.invariant.0 c.self.view_is c.requires c.index.ensures (λ P shows. c.queued_number.ensures P shows)
