use Rattle.std.proofs.Common.{◌≡◌, ◌∙◌, ◌||◌, ap, ap₂, rules}
use Rattle.std.proofs.lemmas.List.{with_items_is}
use Rattle.std.specs.List.{list_any}
use Rattle.std.specs.Prelude.{nat_lt, slice_index}
use Rattle.std.specs.Vec.{with_items}
use Rattle.order_sets.specs.Facts.{covers}
use Rattle.order_sets.specs.Holds.{in_run, in_part}
use Rattle.order_sets.proofs.SeenLaws.{has_it, was, joined, ends_joined}
use Rattle.order_sets.proofs.SetLaws.{none_more}
use Rattle.order_sets.proofs.known.Known.unite.Goals as goal

pub returns-then-are_none-clause-ok : goal.returns-then-are_none-clause-ok
returns-then-are_none-clause-ok c = λ at.
    let k = c.self.inside in
    let o = c.other.inside in
    let ends = (with_items c.self.inside.ends c.raise_all.new.ends).items in
    let whole : ends ≡ c.raise_all.new.ends = with_items_is c.self.inside.ends c.raise_all.new.ends (search rules) in
    let of_ends = ends_joined c.as_mut_slice.result.now c.as_slice.result.now c.raise_all.new.ends at (c.raise_all.ensures at.chain) in
    has_it ends k.runs.items k.parts.items k.rest.items at
    ∙ (joined k o _ _ _ _ at
    (ap (λ l. nat_lt at.place (slice_index l at.chain)) whole ∙ (of_ends ∙ ap₂ (λ old more. nat_lt at.place (slice_index old at.chain) || nat_lt at.place (slice_index more at.chain)) c.as_mut_slice.ensures.value c.as_slice.ensures.value))
    (none_more (in_run at) k.runs.items o.runs.items (c.are_none.ensures.runs c.if-are_none.true))
    (none_more (in_part at) k.parts.items o.parts.items (c.are_none.ensures.parts c.if-are_none.true))
    (none_more (λ f. covers f at) k.rest.items o.rest.items (c.are_none.ensures.rest c.if-are_none.true))
    ∙ ap₂ (λ a b. a || b) (was k _ at c.self.view_is) (was o _ at c.other.view_is))

pub returns-clause-ok : goal.returns-clause-ok
returns-clause-ok c = λ at.
    let ends = (with_items c.self.inside.ends c.raise_all-2.new.ends).items in
    let whole : ends ≡ c.raise_all-2.new.ends = with_items_is c.self.inside.ends c.raise_all-2.new.ends (search rules) in
    let of_ends = ends_joined c.as_mut_slice-2.result.now c.as_slice-2.result.now c.raise_all-2.new.ends at (c.raise_all-2.ensures at.chain) in
    has_it ends c.join_runs.new.runs.items c.join_parts.new.parts.items c.join_rest.new.rest.items at
    ∙ (joined c.self.inside c.other.inside _ _ _ _ at
    (ap (λ l. nat_lt at.place (slice_index l at.chain)) whole ∙ (of_ends ∙ ap₂ (λ old more. nat_lt at.place (slice_index old at.chain) || nat_lt at.place (slice_index more at.chain)) c.as_mut_slice-2.ensures.value c.as_slice-2.ensures.value))
    (c.in_ok-more_runs.ensures.ok at ∙ ap₂ (λ old more. list_any (in_run at) old || list_any (in_run at) more) c.in_ok-reserve.ensures.items c.deref.ensures.value)
    (c.in_ok-more_parts.ensures.ok at ∙ ap₂ (λ old more. list_any (in_part at) old || list_any (in_part at) more) c.in_ok-reserve-2.ensures.items c.deref-2.ensures.value)
    (c.in_ok-more_rest.ensures.ok at ∙ ap₂ (λ old more. list_any (λ f. covers f at) old || list_any (λ f. covers f at) more) c.in_ok-reserve-3.ensures.items c.deref-3.ensures.value)
    ∙ ap₂ (λ a b. a || b) (was c.self.inside _ at c.self.view_is) (was c.other.inside _ at c.other.view_is))
