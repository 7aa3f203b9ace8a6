use Rattle.order_sets.specs.Stands.{has_at}
use Rattle.race_order.specs.Tables.{upto_last}
use Rattle.race_order.proofs.OwnSets.{second_more}
use Rattle.race_order.proofs.own.Own.add_other.Goals as goal

pub returns-clause-has : goal.returns-clause-has
returns-clause-has c = λ at. second_more (upto_last c.args.self.now.spe c.args.self.now.last at) (has_at c.args.self.now.known at) _ _ (c.in_ok-add.ensures.ok at)
