use Rattle.std.proofs.Common.{refl}
use Rattle.cell_machine.proofs.HostSteps.{acted-signal, acted-send, acted-take, acted-take_intr, acted-await, store-leaves}
use Rattle.cell_machine.specs.Shows.{reservations}
use Rattle.cell_machine.proofs.hosts.perform.Goals as goal

pub returns-in-Send-clause-made : goal.returns-in-Send-clause-made
returns-in-Send-clause-made c = λ host M shows all.
    rw c.in-Send.is (rw (acted-send M c.in-Send.spe _) (c.answer_at.ensures.made _ host M shows all))

pub returns-in-Take-clause-made : goal.returns-in-Take-clause-made
returns-in-Take-clause-made c = λ host M shows all.
    rw c.in-Take.is (rw (acted-take M c.in-Take.spe) (c.answer_at-in-Take.ensures.made _ host M shows all))

pub returns-in-TakeIntr-clause-made : goal.returns-in-TakeIntr-clause-made
returns-in-TakeIntr-clause-made c = λ host M shows all.
    rw c.in-TakeIntr.is (rw (acted-take_intr M c.in-TakeIntr.spe) (c.answer_at-in-TakeIntr.ensures.made _ host M shows all))

pub returns-in-Await-clause-made : goal.returns-in-Await-clause-made
returns-in-Await-clause-made c = λ host M shows all.
    rw c.in-Await.is (rw (acted-await M c.in-Await.spe) (c.answer_at-in-Await.ensures.made _ host M shows all))

pub returns-in-Store-clause-made : goal.returns-in-Store-clause-made
returns-in-Store-clause-made c = λ host M shows all. rw c.in-Store.is
    (store-leaves _ _ _ _ host M _ _ _ _ c.store-losers.result shows all c.requires.many (c.store-losers.ensures.shows M.memory (reservations M.spes) shows.memory_is) (c.store-losers.ensures.losers M.memory (reservations M.spes) shows.memory_is) c.lose.ensures.lost refl)

pub returns-in-Signal-clause-made : goal.returns-in-Signal-clause-made
returns-in-Signal-clause-made c = λ host M shows all.
    rw c.in-Signal.is (rw (acted-signal M c.in-Signal.spe _ _) (c.answer_at-in-Signal.ensures.made _ host M shows all))
