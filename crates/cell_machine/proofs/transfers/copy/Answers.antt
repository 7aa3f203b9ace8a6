use Rattle.cell_machine.proofs.MemoryShown.{copied-put_loses, copied-get_loses, copied-put_spe, copied-put_memory, copied-get_spe, copied-get_memory}
use Rattle.cell_machine.proofs.transfers.copy.Goals as goal

pub returns-then-put_it-clause-store : goal.returns-then-put_it-clause-store
returns-then-put_it-clause-store c = λ P m reserved shows was. rw (c.if-put_it.true, ← c.part-y.ensures.ends) (copied-put_spe m P c.part-y.result _ was)

pub returns-then-put_it-clause-memory : goal.returns-then-put_it-clause-memory
returns-then-put_it-clause-memory c = λ P m reserved shows was.
    rw (c.if-put_it.true, ← c.part-y.ensures.ends) (copied-put_memory _ m reserved P c.part-y.result _ was (c.put_part.ensures.stores m reserved shows))

pub returns-else-put_it-clause-store : goal.returns-else-put_it-clause-store
returns-else-put_it-clause-store c = λ P m reserved shows was.
    rw (c.if-put_it.false, ← c.part-y.ensures.ends) (copied-get_spe m P c.part-y.result _ _ _ shows.bytes was c.get_part.ensures)

pub returns-else-put_it-clause-memory : goal.returns-else-put_it-clause-memory
returns-else-put_it-clause-memory c = λ P m reserved shows was. rw (c.if-put_it.false, ← c.part-y.ensures.ends) (copied-get_memory _ m reserved P c.part-y.result shows)

pub returns-then-put_it-clause-losers : goal.returns-then-put_it-clause-losers
returns-then-put_it-clause-losers c = λ P m reserved shows was.
    rw (c.if-put_it.true, ← c.part-y.ensures.ends) (copied-put_loses c.put_part.result m reserved P c.part-y.result _ was (c.put_part.ensures.losers m reserved shows))

pub returns-else-put_it-clause-losers : goal.returns-else-put_it-clause-losers
returns-else-put_it-clause-losers c = λ P m reserved shows was. rw (c.if-put_it.false, ← c.part-y.ensures.ends) (copied-get_loses m reserved P c.part-y.result)
