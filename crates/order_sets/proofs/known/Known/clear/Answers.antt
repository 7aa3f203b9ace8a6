use Rattle.std.proofs.Common.{◌≡◌, ◌∙◌, ap, rules}
use Rattle.std.proofs.lemmas.List.{with_items_is}
use Rattle.std.specs.Prelude.{slice_index}
use Rattle.std.specs.Vec.{with_items}
use Rattle.order_sets.proofs.SeenLaws.{has_it, nothing}
use Rattle.order_sets.proofs.known.Known.clear.Goals as goal

pub returns-clause-empty : goal.returns-clause-empty
returns-clause-empty c = λ at.
    let ends = (with_items c.self.inside.ends c.lower_all.new.ends).items in
    let whole : ends ≡ c.lower_all.new.ends = with_items_is c.self.inside.ends c.lower_all.new.ends (search rules) in
    has_it ends c.clear.new.self.items c.clear-2.new.self.items c.clear-3.new.self.items at
    ∙ nothing _ _ _ _ at (ap (λ l. slice_index l at.chain) whole ∙ c.lower_all.ensures.zero at.chain) c.clear.ensures.items c.clear-2.ensures.items c.clear-3.ensures.items
