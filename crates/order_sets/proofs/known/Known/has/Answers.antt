use Rattle.std.proofs.Common.{◌≡◌, ◌∙◌, rules}
use Rattle.order_sets.proofs.SeenLaws.{was, parts_have_it}
use Rattle.order_sets.proofs.known.Known.has.Goals as goal

pub returns-then-is_covered-clause-has : goal.returns-then-is_covered-clause-has
returns-then-is_covered-clause-has c =
    let k = c.self.inside in
    let found : c.if-is_below.value ≡ parts_have_it k.ends.items k.runs.items k.parts.items k.rest.items c.args.at = search rules in
    found ∙ was k _ c.args.at c.self.view_is

pub returns-then-is_covered-clause-covered : goal.returns-then-is_covered-clause-covered
returns-then-is_covered-clause-covered c = λ facts stands. returns-then-is_covered-clause-has c ∙ stands c.args.at

pub returns-else-is_covered-clause-has : goal.returns-else-is_covered-clause-has
returns-else-is_covered-clause-has c =
    let k = c.self.inside in
    let found : c.has.result ≡ parts_have_it k.ends.items k.runs.items k.parts.items k.rest.items c.args.at = search rules in
    found ∙ was k _ c.args.at c.self.view_is

pub returns-else-is_covered-clause-covered : goal.returns-else-is_covered-clause-covered
returns-else-is_covered-clause-covered c = λ facts stands. returns-else-is_covered-clause-has c ∙ stands c.args.at
