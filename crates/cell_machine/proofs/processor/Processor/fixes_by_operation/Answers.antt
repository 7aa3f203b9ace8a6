use Rattle.std.proofs.Common.{sym, ◌∙◌}
use Rattle.cell_machine.proofs.Telling.{operation-fixes}
use Rattle.cell_machine.proofs.processor.Processor.fixes_by_operation.Goals as goal

pub returns-in-Write : goal.returns-in-Write
returns-in-Write c = λ P Q registers store shows made. c.fixes_by_write.ensures P Q registers store shows (rw c.in-Write.is at made)

pub returns-in_default : goal.returns-in_default
returns-in_default c = λ P Q registers store shows made. c.fixes.ensures P shows ∙ sym (operation-fixes c.args.lines _ Q c.args.op (λ ch value is. c.in_default.not-Write ch value is) made)
