use Rattle.std.proofs.Common.{◌||◌, rules, ap, ◌∙◌}
use Rattle.std.specs.List.{list_any}
use Rattle.std.proofs.lemmas.Fn.{filter_same}
use Rattle.order_sets.specs.Facts.{covers}
use Rattle.order_sets.specs.Holds.{is_needed}
use Rattle.order_sets.proofs.SetLaws.{is_covered, ones_dropped}
use Rattle.order_sets.proofs.known.drop_ones.Goals as goal

pub returns : goal.returns
returns c =
    let runs = c.args.runs.now in
    let parts = c.args.parts.now in
    let kept = filter_same _ (is_needed runs parts) _ (λ x b f k. search rules) _ _ c.retain.ensures.filtered in
    λ at. ap (λ l. is_covered runs parts at || list_any (λ f. covers f at) l) kept ∙ ones_dropped runs parts c.args.rest.now.items at
