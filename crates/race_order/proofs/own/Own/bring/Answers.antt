use Rattle.race_order.proofs.Gains.{gained}
use Rattle.race_order.proofs.own.Own.bring.Goals as goal

pub returns-clause-has : goal.returns-clause-has
returns-clause-has c = λ at. gained c.args.brought.now c.args.more at _ _ _ _ (c.in_ok-put.ensures.has at) (c.in_ok-add.ensures.has at) (c.in_ok-add_some.ensures.has at)
