use Rattle.std.proofs.Common.{◌≡◌, ◌<◌, true, Some, sym, ◌∙◌, subst, ap, slice_index_or, arith, length}
use Rattle.std.specs.Option.{option_map}
use Rattle.mfc_queue.specs.Calls.{is_outstanding}
use Rattle.mfc_queue.specs.Stands.{place_in}
use Rattle.mfc_queue.specs.declared.Held.{Held}
use Rattle.mfc_queue.specs.declared.place_set.PlaceSet.{PlaceSet}
use Rattle.mfc_queue.proofs.Holding.{own, held-open, command-at, left-is}
use Rattle.mfc_queue.proofs.PlaceLemmas.{place-small}
use Rattle.mfc_queue.proofs.Before.{empty-starts}
use Rattle.mfc_queue.proofs.Counting.{find-own}
use Rattle.mfc_queue.proofs.Queue.seen_at.Goals as goal

pub bounds-self-from : goal.bounds-self-from
bounds-self-from c = subst (λ p. p < 16) (sym c.from.ensures) (place-small _ _ c.args.i c.held_at-h.result.now c.args.self.now.places c.requires c.held_at-h.ensures)

pub returns : goal.returns
returns c = λ cmd same.
    let q = c.args.self.now in
    let h = c.held_at-h.result.now in
    let at = c.held_at-h.ensures in
    let none : PlaceSet = record { bits = 0 } in
    let e : h.cmd ≡ cmd = ap (λ (x : Held). x.cmd) at ∙ same h in
    record {
      waits = λ calls stands. record {
        outstanding = subst (λ k. is_outstanding calls k ≡ true) e (held-open q calls c.args.i h stands c.requires at);
        place = subst (λ k. place_in q k ≡ Some h.place) e
            (ap (option_map (λ (x : Held). x.place)) (find-own q.held.items c.args.i h c.requires at (λ j low is. own q calls j c.args.i h stands (let l = c.requires in omega arith) c.requires (omega arith) (is ∙ ap (λ (x : Held). x.cmd) at))));
        command = command-at q calls c.args.i cmd h stands c.requires at same;
        may_start = c.is_empty.ensures ∙ empty-starts q calls c.args.i cmd h _ none stands c.requires at same (ap (λ p. (slice_index_or q.before p none).bits) c.from.ensures);
        left = h.counted ∙ ap length (left-is q calls cmd c.args.i h stands c.requires at same h.few);
      };
      small = place-small _ _ c.args.i h q.places c.requires at;
      tag = h.tag;
    }
