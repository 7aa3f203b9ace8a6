use Rattle.std.proofs.Common.{filter, ◌||◌, rules, ap, sym, ◌∙◌}
use Rattle.std.proofs.lemmas.Fn.{filter_same}
use Rattle.std.specs.List.{list_any}
use Rattle.order_sets.specs.Holds.{in_part, is_part_inside}
use Rattle.order_sets.proofs.SetLaws.{is_kept, part_added}
use Rattle.order_sets.proofs.parts.add.Goals as goal

pub returns-clause-ok : goal.returns-clause-ok
returns-clause-ok c = λ at.
    let whole = c.grown-whole.result in
    let kept = filter_same _ (is_kept is_part_inside whole) _ (λ x b f k. search rules) _ _ c.retain.ensures.filtered in
    ap (list_any (in_part at)) (kept ∙ ap (filter (is_kept is_part_inside whole)) c.in_ok-push.ensures.items)
    ∙ part_added c.args.part whole c.args.parts.now.items at (c.grown-whole.ensures.more at) (λ inside. ap (λ l. list_any (in_part at) l || in_part at c.args.part) (sym c.as_slice-2.ensures.value) ∙ c.grown-whole.ensures.only at inside)
