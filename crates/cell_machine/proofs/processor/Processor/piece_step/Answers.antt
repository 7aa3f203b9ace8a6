use Rattle.cell_machine.specs.Transfers.{piece}
use Rattle.cell_machine.specs.Shows.{ShowsSpe, ShowsMemory, IsRemoteChange}
use Rattle.cell_machine.specs.OwnEvents.{with_freed, with_stall, with_flow}
use Rattle.cell_machine.proofs.AllTwo.{makes-on, makes-none}
use Rattle.cell_machine.proofs.processor.Processor.piece_step.Goals as goal

pub returns-in_default-clause-made : goal.returns-in_default-clause-made
returns-in_default-clause-made c = λ P m reserved shows memory. makes-none (piece m P c.args.cmd c.args.elem c.args.k) _ _ (rw c.in_default.is at (c.piece.ensures.made P m reserved shows memory))

pub returns-clause-made : goal.returns-clause-made
returns-clause-made c = λ P m reserved shows memory.
    makes-on (piece m P c.args.cmd c.args.elem c.args.k) c.in-Some.change (λ r x. ShowsSpe c.piece.new.self x.spe × ShowsMemory c.piece.new.memory x.memory reserved × IsRemoteChange r m reserved x)
    (λ r x. ShowsSpe c.settle.new.self (with_flow P x.spe) × ShowsMemory c.piece.new.memory x.memory reserved × IsRemoteChange r m reserved x)
    (λ x r. (c.settle.ensures (with_stall P (with_freed P x.spe)) (c.raise_since.ensures P x.spe (c.load-before.ensures P shows) r.0), r.1, r.2))
    (rw c.in-Some.is at (c.piece.ensures.made P m reserved shows memory))
