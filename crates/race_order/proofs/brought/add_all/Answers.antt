use Rattle.race_order.proofs.Gains.{gained}
use Rattle.race_order.proofs.brought.add_all.Goals as goal

pub returns-clause-has : goal.returns-clause-has
returns-clause-has c = λ at. gained c.args.brought.now c.args.more at _ _ _ _ (c.in_ok-join.ensures.ok at) (c.in_ok-add.ensures.ok at) (c.in_ok-add_some.ensures.has at)
