use Rattle.std.proofs.Common.{◌∙◌}
use Rattle.cell_machine.proofs.Places.{first-at}
use Rattle.cell_machine.proofs.processor.Processor.first_of_mfc.Goals as goal

pub returns : goal.returns
returns c = λ P shows. c.ok.ensures.value ∙ first-at c.step_of_mfc.result 0 _ (c.step_of_mfc.ensures P shows)
