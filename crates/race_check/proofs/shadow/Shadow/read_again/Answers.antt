use Rattle.std.proofs.Common.{rules, ◌≡◌, ◌<◌, ◌≤◌, ◌+◌, ◌*◌, ◌/◌, false, None, Some, length, refl, sym, ap, ◌∙◌}
use Rattle.std.specs.Prelude.{slice_index}
use Rattle.std.proofs.lemmas.Option.{slice_get-get_or}
use Rattle.race_check.specs.Walks.{IsOrdered}
use Rattle.race_check.specs.Shows.{list_of}
use Rattle.race_check.specs.Slots.{slot_of}
use Rattle.race_check.proofs.Prefixes.{is_ordered-trans, is_ordered-up}
use Rattle.race_check.proofs.Spans.{takes_one}
use Rattle.race_check.proofs.Visits.{takes_entry}
use Rattle.race_check.proofs.shadow.Shadow.read_again.Goals as goal

pub returns-clause-taken : goal.returns-clause-taken
returns-clause-taken c = λ t.
    let m = c.args.walk.now.machine in
    let shadow = c.args.self.now in
    let span = c.args.span.now in
    let entry = c.whole-entry.result in
    let line = span.at / 128 in
    let number = c.get-number.result in
    let inside : number < length shadow.lists.items = search rules in
    let numbers = shadow.numbers in
    let slot = c.slot-slot.result in
    let here : slot ≡ slot_of (length numbers) entry.place line = search rules in
    let is : number ≡ list_of shadow entry.place line = c.get-number.ensures ∙ ap (slice_index numbers) here in
    let end : span.at + span.len ≤ 128 * line + 128 = search rules in
    let at = slice_get-get_or shadow.lists.items number c.index_mut.result.now inside ∙ ap Some (sym c.index_mut.ensures.value) in
    takes_one (IsOrdered m) shadow _ span c.args.step false line entry c.whole-entry.ensures.step c.whole-entry.ensures.holds c.whole-entry.ensures.only refl end None
    (takes_entry (IsOrdered m) (is_ordered-trans m) (is_ordered-up m) shadow _ number _ c.read_again.new.self entry false line inside refl refl at is None (c.read_again.ensures.read t))
