use Rattle.std.proofs.Common.{filter, ◌||◌, rules, ap, sym, ◌∙◌}
use Rattle.std.proofs.lemmas.Fn.{filter_same}
use Rattle.std.specs.List.{list_any}
use Rattle.order_sets.specs.Holds.{in_run, is_inside}
use Rattle.order_sets.proofs.SetLaws.{is_kept, run_added}
use Rattle.order_sets.proofs.runs.add.Goals as goal

pub returns-clause-ok : goal.returns-clause-ok
returns-clause-ok c = λ at.
    let whole = c.grown-whole.result in
    let kept = filter_same _ (is_kept is_inside whole) _ (λ x b f k. search rules) _ _ c.retain.ensures.filtered in
    ap (list_any (in_run at)) (kept ∙ ap (filter (is_kept is_inside whole)) c.in_ok-push.ensures.items)
    ∙ run_added c.args.run whole c.args.runs.now.items at (c.grown-whole.ensures.more at) (λ inside. ap (λ l. list_any (in_run at) l || in_run at c.args.run) (sym c.as_slice-2.ensures.value) ∙ c.grown-whole.ensures.only at inside)
