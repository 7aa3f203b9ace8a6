use Rattle.cell_machine.proofs.Fixed.{not-pending}
use Rattle.cell_machine.proofs.processor.Processor.fixes_by_issue.Goals as goal

pub returns-then-not-pending : goal.returns-then-not-pending
returns-then-not-pending c = λ m shows. not-pending c.args.self.now.tags _ c.pending.result c.pending.ensures c.if-not-pending.true

pub issue-requires-clause-number : goal.issue-requires-clause-number
issue-requires-clause-number c = rw c.copy-after.ensures c.requires.number

pub issue-requires-clause-free : goal.issue-requires-clause-free
issue-requires-clause-free c = rw c.copy-after.ensures c.requires.free

pub returns : goal.returns
returns c = λ m shows. c.fixes_with.ensures _ (c.issue.ensures m (rw c.copy-after.ensures shows))
