use Rattle.std.proofs.Common.{sym}
use Rattle.cell_machine.proofs.ChannelSteps.{count-some}
use Rattle.cell_machine.proofs.processor.Processor.is_ready.Goals as goal

pub returns-in-Count : goal.returns-in-Count
returns-in-Count c = λ lines P shows. rw c.in-Count.is (sym (count-some lines P _ _))
