use Rattle.std.proofs.Common.{◌||◌, not, rules, ap, ◌∙◌}
use Rattle.std.specs.List.{list_any}
use Rattle.std.proofs.lemmas.Fn.{filter_same}
use Rattle.order_sets.specs.Holds.{in_run, in_part}
use Rattle.order_sets.proofs.SetLaws.{in_one, parts_dropped}
use Rattle.order_sets.proofs.known.drop_parts.Goals as goal

pub returns : goal.returns
returns c =
    let runs = c.args.runs.now in
    let kept = filter_same _ (λ x. not (in_one runs x.run)) _ (λ x b f k. search rules) _ _ c.retain.ensures.filtered in
    λ at. ap (λ l. list_any (in_run at) runs || list_any (in_part at) l) kept ∙ parts_dropped runs c.args.parts.now.items at
