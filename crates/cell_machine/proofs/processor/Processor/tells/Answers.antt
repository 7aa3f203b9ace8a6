use Rattle.std.proofs.Common.{sym}
use Rattle.cell_machine.proofs.Telling.{next-told, stop-told, halt-told}
use Rattle.cell_machine.proofs.processor.Processor.tells.Goals as goal

pub returns-in-Next : goal.returns-in-Next
returns-in-Next c = λ P Q registers store shows on made. rw c.in-Next.is (sym (next-told c.args.lines c.args.spe _ P Q registers store (rw c.in-Next.is at made)))

pub returns-in-Stop : goal.returns-in-Stop
returns-in-Stop c = λ P Q registers store shows on made. rw c.in-Stop.is (sym (stop-told c.args.lines c.args.spe _ _ P Q registers store on (rw c.in-Stop.is at made)))

pub returns-in-Halt : goal.returns-in-Halt
returns-in-Halt c = λ P Q registers store shows on made. rw c.in-Halt.is (sym (halt-told c.args.lines c.args.spe _ P Q registers store on (rw c.in-Halt.is at made)))
