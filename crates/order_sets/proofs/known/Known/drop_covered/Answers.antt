use Rattle.std.proofs.Common.{◌≡◌, ◌∙◌, ◌||◌, rules}
use Rattle.std.specs.List.{list_any}
use Rattle.order_sets.specs.Facts.{covers}
use Rattle.order_sets.specs.Holds.{in_run, in_part}
use Rattle.order_sets.proofs.SeenLaws.{has_it, was, dropped}
use Rattle.order_sets.proofs.known.Known.drop_covered.Goals as goal

pub returns-clause-same : goal.returns-clause-same
returns-clause-same c = λ at.
    let k = c.self.inside in
    let parts = c.drop_parts.new.parts.items in
    let rest = c.drop_ones.new.rest.items in
    let of_parts : (list_any (in_run at) k.runs.items || list_any (in_part at) parts) ≡ (list_any (in_run at) k.runs.items || list_any (in_part at) k.parts.items) = search rules in
    let of_ones : ((list_any (in_run at) k.runs.items || list_any (in_part at) parts) || list_any (λ f. covers f at) rest) ≡ ((list_any (in_run at) k.runs.items || list_any (in_part at) parts) || list_any (λ f. covers f at) k.rest.items) = search rules in
    has_it k.ends.items k.runs.items parts rest at ∙ (dropped k parts rest at of_parts of_ones ∙ was k _ at c.self.view_is)
