use Rattle.std.proofs.Common.{rules, ◌||◌, ◌&&◌, ap, ◌∙◌}
use Rattle.order_sets.proofs.AnySet.{any_set}
use Rattle.race_order.specs.Gains.{has_gain}
use Rattle.race_order.specs.Tables.{same_role, row_has}
use Rattle.race_order.proofs.buckets.Bucket.bring.Goals as goal

pub returns-clause-has : goal.returns-clause-has
returns-clause-has c = λ r at.
    any_set (row_has r at) c.place.new.self.rows.items c.in_ok-i.i c.bring_row.new.row c.index_mut.result.now (same_role c.args.role r && has_gain c.args.brought.now c.args.more at) (search rules)
    (c.in_ok-bring_row.ensures.has r at ∙ ap (λ x. row_has r at x || (same_role c.args.role r && has_gain c.args.brought.now c.args.more at)) c.index_mut.ensures.value)
    ∙ ap (λ b. b || (same_role c.args.role r && has_gain c.args.brought.now c.args.more at)) (c.in_ok-i.ensures.has r at)
