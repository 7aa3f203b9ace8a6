use Rattle.std.proofs.Common.{rules, ◌≡◌, ◌||◌, ◌<◌, length, take, get_or, ap, sym, ◌∙◌}
use Rattle.std.specs.List.{list_any}
use Rattle.order_sets.specs.Stands.{has_at}
use Rattle.order_sets.proofs.AnySet.{any_take}
use Rattle.race_order.specs.Tables.{row_has}
use Rattle.race_order.proofs.SameRole.{or_assoc}
use Rattle.race_order.proofs.buckets.Bucket.gather.Goals as goal

pub loop-row-preserved : goal.loop-row-preserved
loop-row-preserved c =
    let inside : c.loop-row.row-index < length c.args.self.now.rows.items = search rules in
    let here : c.row-item.result ≡ get_or c.args.self.now.rows.items c.loop-row.row-index c.row-item.result = search rules in
    record {
      has = λ at.
          c.in_ok-gather_row.ensures.has at
          ∙ (ap (λ b. b || row_has c.args.role at c.row-item.result) (c.loop-row.invariant.has at)
          ∙ (or_assoc (has_at c.args.known.now at) (list_any (row_has c.args.role at) (take c.loop-row.row-index c.args.self.now.rows.items)) (row_has c.args.role at c.row-item.result)
          ∙ ap (λ b. has_at c.args.known.now at || b) (sym (any_take (row_has c.args.role at) c.args.self.now.rows.items c.loop-row.row-index c.row-item.result inside here))));
      chains = search rules;
    }
