use Rattle.cell_machine.specs.Shows.{ShowsSpe}
use Rattle.cell_machine.specs.OwnEvents.{with_freed, with_stall, with_flow}
use Rattle.cell_machine.proofs.AllTwo.{some_on}
use Rattle.cell_machine.proofs.processor.Processor.elem_step.Goals as goal

pub returns-clause-made : goal.returns-clause-made
returns-clause-made c = λ P shows.
    let made = rw c.if-not-elem.false at (c.elem.ensures.made P shows) in
    some_on _ (ShowsSpe c.elem.new.self) (λ Q. ShowsSpe c.settle.new.self (with_flow P Q))
    (λ Q r. c.settle.ensures (with_stall P (with_freed P Q)) (c.raise_since.ensures P Q (c.load-before.ensures P shows) r)) made
