use Rattle.std.proofs.Common.{rules, ◌≡◌, ◌<◌, length, inr, ap, sym, ◌∙◌}
use Rattle.std.specs.Prelude.{slice_index}
use Rattle.std.proofs.lemmas.List.{get_or_default}
use Rattle.race_order.specs.Tables.{place_of}
use Rattle.race_order.proofs.HasIn.{unplaced}
use Rattle.race_order.proofs.table.Table.find.Goals as goal

pub returns-then-len-place-clause-none : goal.returns-then-len-place-clause-none
returns-then-len-place-clause-none c = λ none r at same.
    let places = c.args.self.now.places.items in
    let place = c.index.result.now in
    let low : c.number-number.result < length places = search rules in
    let here : place ≡ slice_index places c.number-number.result = c.index.ensures ∙ get_or_default places c.number-number.result place 0 low in
    let is : place ≡ place_of places c.args.role = here ∙ ap (slice_index places) c.number-number.ensures.number in
    let far : length c.args.self.now.buckets.items < place = search rules in
    unplaced places c.args.self.now.buckets.items place c.args.role r at (sym is) (inr far) same
