use Rattle.std.proofs.Common.{sym, ◌∙◌}
use Rattle.cell_machine.proofs.Telling.{flow-fixes}
use Rattle.cell_machine.proofs.processor.Processor.fixes_by.Goals as goal

pub returns-in-Channel : goal.returns-in-Channel
returns-in-Channel c = λ P Q registers store shows made. c.fixes_by_operation.ensures P Q registers store shows (rw c.in-Channel.is at made)

pub returns-in_default : goal.returns-in_default
returns-in_default c = λ P Q registers store shows made. c.fixes.ensures P shows ∙ sym (flow-fixes c.args.lines _ Q c.args.flow (λ op is. c.in_default.not-Channel op is) made)
