use Rattle.std.proofs.Common.{rules, ◌||◌, ◌&&◌, ap, ◌∙◌}
use Rattle.order_sets.specs.Facts.{covers}
use Rattle.order_sets.proofs.AnySet.{any_set}
use Rattle.race_order.specs.Tables.{same_role, row_has}
use Rattle.race_order.proofs.buckets.Bucket.add.Goals as goal

pub returns-clause-has : goal.returns-clause-has
returns-clause-has c = λ r at.
    any_set (row_has r at) c.place.new.self.rows.items c.in_ok-i.i c.add_row.new.row c.index_mut.result.now (same_role c.args.role r && covers c.args.fact at) (search rules)
    (c.in_ok-add_row.ensures.has r at ∙ ap (λ x. row_has r at x || (same_role c.args.role r && covers c.args.fact at)) c.index_mut.ensures.value)
    ∙ ap (λ b. b || (same_role c.args.role r && covers c.args.fact at)) (c.in_ok-i.ensures.has r at)
