use Rattle.cell_machine.proofs.Fixed.{not-pending}
use Rattle.cell_machine.proofs.processor.Processor.fixes_by_acknowledgement.Goals as goal

pub returns-then-not-pending : goal.returns-then-not-pending
returns-then-not-pending c = λ m shows. not-pending c.args.self.now.tags _ c.pending.result c.pending.ensures c.if-not-pending.true

pub acknowledge-requires : goal.acknowledge-requires
acknowledge-requires c = rw c.copy-after.ensures c.requires

pub returns : goal.returns
returns c = λ m shows. c.fixes_with.ensures _ (c.acknowledge.ensures m (rw c.copy-after.ensures shows))
