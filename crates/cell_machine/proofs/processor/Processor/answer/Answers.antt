use Rattle.std.proofs.Common.{refl}
use Rattle.cell_machine.proofs.HostGives.{same-gives}
use Rattle.cell_machine.proofs.processor.Processor.answer.Goals as goal

pub returns-in-Store-clause-made : goal.returns-in-Store-clause-made
returns-in-Store-clause-made c = λ P shows still. rw c.in-Store.is (same-gives P _ _ still refl shows)
