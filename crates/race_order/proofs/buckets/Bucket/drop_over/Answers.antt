use Rattle.std.proofs.Common.{rules, not, ap, ◌∙◌}
use Rattle.std.specs.List.{list_any}
use Rattle.std.proofs.lemmas.Fn.{filter_same}
use Rattle.race_order.specs.Passes.{is_over}
use Rattle.race_order.specs.Tables.{row_has}
use Rattle.race_order.proofs.SameRoles.{rows_dropped}
use Rattle.race_order.proofs.buckets.Bucket.drop_over.Goals as goal

pub returns-clause-has : goal.returns-clause-has
returns-clause-has c =
    let next = c.args.next.now in
    let kept = filter_same _ (λ row. not (is_over next row.role)) _ (λ x b f k. search rules) _ _ c.retain.ensures.filtered in
    λ r at q. ap (list_any (row_has r at)) kept ∙ rows_dropped (is_over next) r at c.args.self.now.rows.items q
