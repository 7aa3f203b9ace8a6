use Rattle.std.proofs.Common.{◌||◌, ap, sym, ◌∙◌}
use Rattle.order_sets.specs.Stands.{has_at}
use Rattle.race_order.specs.Tables.{upto_last}
use Rattle.race_order.proofs.OwnSets.{both_more}
use Rattle.race_order.proofs.own.Own.gather.Goals as goal

pub returns-in_ok-add-clause-has : goal.returns-in_ok-add-clause-has
returns-in_ok-add-clause-has c = λ at.
    let own = c.args.self.now in
    both_more (has_at c.args.known.now at) _ (has_at own.known at) _ _ (c.in_ok-join.ensures.ok at) (c.in_ok-add.ensures.ok at)
    ∙ ap (λ l. has_at c.args.known.now at || (upto_last own.spe l at || has_at own.known at)) (sym c.in-Some.is)
