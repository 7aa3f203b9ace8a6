use Rattle.std.proofs.Common.{◌≡◌, not, refl, sym, ◌∙◌, ap, subst}
use Rattle.std.specs.Prelude.{find, filter, ◌==◌, map}
use Rattle.std.specs.Option.{option_map}
use Rattle.mfc_queue.specs.Places.{ArePlaces}
use Rattle.mfc_queue.specs.declared.Held.{Held}
use Rattle.mfc_queue.proofs.Holding.{held-none, own, stands-retire}
use Rattle.mfc_queue.proofs.PlaceLemmas.{place-small, places-left, remove-found, remove-filter}
use Rattle.mfc_queue.proofs.Before.{retired-before}
use Rattle.mfc_queue.proofs.Queue.retire.Goals as goal

pub unreachable-requires : goal.unreachable-requires
unreachable-requires c = held-none _ c.args.cmd c.requires c.in-None.ensures.none

pub remove_from_all-requires-clause-small : goal.remove_from_all-requires-clause-small
remove_from_all-requires-clause-small c = place-small _ _ c.in-Some.i c.remove-h.result c.args.self.now.places c.in-Some.ensures.found.0 c.remove-h.ensures.value

pub returns-clause-stands : goal.returns-clause-stands
returns-clause-stands c = λ calls stands.
    let is : c.remove-h.new.self.items ≡ filter (λ (x : Held). not (c.args.cmd == x.cmd)) c.args.self.now.held.items =
    c.remove-h.ensures.items
    ∙ remove-filter _ c.in-Some.i c.args.cmd c.in-Some.ensures.found.0 c.in-Some.ensures.found.1
    (λ j d low differs same. own _ calls j c.in-Some.i d stands low c.in-Some.ensures.found.0 differs (same ∙ sym (c.in-Some.ensures.found.1 d))) in
    stands-retire _ _ calls c.args.cmd stands c.requires refl is
    (retired-before c.args.self.now calls c.in-Some.i c.args.cmd c.remove-h.result _ _ stands c.in-Some.ensures.found.0 c.remove-h.ensures.value c.in-Some.ensures.found.1 is c.remove_from_all.ensures.each)

pub invariant_of-self : goal.invariant_of-self
invariant_of-self c = record {
  places = subst (λ xs. ArePlaces (map (λ (h : Held). h.place) xs) c.push.new.self.items) (sym c.remove-h.ensures.items)
      (places-left _ _ _ c.in-Some.i c.remove-h.result c.args.self.now.places c.in-Some.ensures.found.0 c.remove-h.ensures.value c.push.ensures.items);
  sets = c.remove_from_all.ensures.many;
  groups = c.groups_of-self.ensures;
}

pub returns-clause-places : goal.returns-clause-places
returns-clause-places c = λ other differs.
    ap (λ xs. option_map (λ (h : Held). h.place) (find (λ (h : Held). h.cmd == other) xs)) c.remove-h.ensures.items
    ∙ ap (option_map (λ (h : Held). h.place)) (remove-found _ c.in-Some.i c.remove-h.result other c.in-Some.ensures.found.0 c.remove-h.ensures.value
    (λ same. differs (same ∙ ap (λ (h : Held). h.cmd) c.remove-h.ensures.value ∙ c.in-Some.ensures.found.1 c.remove-h.result)))
