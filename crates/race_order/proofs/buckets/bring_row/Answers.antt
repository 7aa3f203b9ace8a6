use Rattle.std.proofs.Common.{◌≡◌, ◌||◌, ◌&&◌, ap, ◌∙◌}
use Rattle.order_sets.specs.Stands.{has_at}
use Rattle.race_order.specs.Gains.{has_gain}
use Rattle.race_order.specs.Tables.{same_role, row_has}
use Rattle.race_order.proofs.SameRole.{and_or}
use Rattle.race_order.proofs.SameRoles.{same_role_is}
use Rattle.race_order.proofs.buckets.bring_row.Goals as goal

pub returns-clause-has : goal.returns-clause-has
returns-clause-has c = λ r at.
    let role : c.args.row.now.role ≡ c.args.role = same_role_is c.args.role c.args.row.now.role c.requires.role in
    ap (λ b. same_role c.args.row.now.role r && b) (c.in_ok-add_all.ensures.has at)
    ∙ (and_or (same_role c.args.row.now.role r) (has_at c.args.row.now.known at) (has_gain c.args.brought.now c.args.more at)
    ∙ ap (λ x. row_has r at c.args.row.now || (same_role x r && has_gain c.args.brought.now c.args.more at)) role)
