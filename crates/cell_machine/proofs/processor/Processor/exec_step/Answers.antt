use Rattle.cell_machine.specs.Shows.{ShowsSpe}
use Rattle.cell_machine.specs.OwnEvents.{with_freed, with_fixed}
use Rattle.cell_machine.proofs.AllTwo.{some_on}
use Rattle.cell_machine.proofs.processor.Processor.exec_step.Goals as goal

pub returns-clause-made : goal.returns-clause-made
returns-clause-made c = λ P shows.
    let made = rw c.if-not-exec.false at (c.exec.ensures.made P shows) in
    some_on _ (λ Q. ShowsSpe c.exec.new.self (with_freed P Q)) (λ Q. ShowsSpe c.settle.new.self (with_fixed (with_freed P Q))) (λ Q r. c.settle.ensures (with_freed P Q) r) made
