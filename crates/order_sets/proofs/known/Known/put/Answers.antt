use Rattle.std.proofs.Common.{◌≡◌, ◌∙◌, ◌||◌, ap, ap₂, sym, rules}
use Rattle.std.proofs.lemmas.List.{with_items_is}
use Rattle.std.specs.Prelude.{nat_lt, slice_index}
use Rattle.std.specs.List.{list_any}
use Rattle.std.specs.Vec.{with_items}
use Rattle.order_sets.specs.declared.facts.Fact.TheVariants.{Upto}
use Rattle.order_sets.specs.Facts.{covers}
use Rattle.order_sets.specs.Holds.{in_run, in_part}
use Rattle.order_sets.proofs.SeenLaws.{has_it, was, end_raised, more_ends, more_runs, more_parts, more_rest}
use Rattle.order_sets.proofs.known.Known.put.Goals as goal

pub returns-in-Some-clause-ok : goal.returns-in-Some-clause-ok
returns-in-Some-clause-ok c = λ at.
    let ends = (with_items c.self.inside.ends c.raise.new.ends).items in
    let whole : ends ≡ c.raise.new.ends = with_items_is c.self.inside.ends c.raise.new.ends (search rules) in
    has_it ends c.self.inside.runs.items c.self.inside.parts.items c.self.inside.rest.items at
    ∙ (more_ends c.self.inside ends at _ (ap (λ l. nat_lt at.place (slice_index l at.chain)) whole
    ∙ (end_raised _ c.raise.new.ends c.in-Upto.chain c.in-Upto.place c.in-Some.end at (search rules) c.raise.ensures.here c.raise.ensures.others
    ∙ ap (λ l. nat_lt at.place (slice_index l at.chain) || covers (Upto c.in-Upto.chain c.in-Upto.place) at) c.as_mut_slice.ensures.value))
    ∙ ap₂ (λ b f. b || covers f at) (was c.self.inside _ at c.self.view_is) (sym c.in-Upto.is))

pub returns-in_ok-grows-in-Whole-clause-ok : goal.returns-in_ok-grows-in-Whole-clause-ok
returns-in_ok-grows-in-Whole-clause-ok c = λ at.
    has_it c.self.inside.ends.items c.add-in-Whole.new.runs.items c.self.inside.parts.items c.self.inside.rest.items at
    ∙ (more_runs c.self.inside c.add-in-Whole.new.runs.items at _ (c.in_ok-grows-in-Whole.ensures.ok at ∙ ap (λ b. list_any (in_run at) c.self.inside.runs.items || b) (c.single.ensures at))
    ∙ ap₂ (λ b f. b || covers f at) (was c.self.inside _ at c.self.view_is) (sym c.in-Whole.is))

pub returns-in_ok-grows-in-Elements-clause-ok : goal.returns-in_ok-grows-in-Elements-clause-ok
returns-in_ok-grows-in-Elements-clause-ok c = λ at.
    has_it c.self.inside.ends.items c.self.inside.runs.items c.add-in-Elements.new.parts.items c.self.inside.rest.items at
    ∙ (more_parts c.self.inside c.add-in-Elements.new.parts.items at _ (c.in_ok-grows-in-Elements.ensures.ok at ∙ ap (λ b. list_any (in_part at) c.self.inside.parts.items || b) (c.single-in-Elements.ensures at))
    ∙ ap₂ (λ b f. b || covers f at) (was c.self.inside _ at c.self.view_is) (sym c.in-Elements.is))

pub returns-in_ok-add-in-One-clause-ok : goal.returns-in_ok-add-in-One-clause-ok
returns-in_ok-add-in-One-clause-ok c = λ at.
    has_it c.self.inside.ends.items c.self.inside.runs.items c.self.inside.parts.items c.add-in-One.new.rest.items at
    ∙ (more_rest c.self.inside c.add-in-One.new.rest.items at _ (c.in_ok-add-in-One.ensures.ok at) ∙ ap (λ b. b || covers c.args.f at) (was c.self.inside _ at c.self.view_is))
