use Rattle.order_sets.specs.Stands.{has_at}
use Rattle.race_order.specs.Tables.{upto_last}
use Rattle.race_order.proofs.OwnSets.{first_more}
use Rattle.race_order.proofs.own.Own.raise.Goals as goal

pub returns-clause-has : goal.returns-clause-has
returns-clause-has c = λ at. first_more (upto_last c.args.self.now.spe c.args.self.now.last at) (has_at c.args.self.now.known at) _ _ (c.later.ensures c.args.self.now.spe at)
