use Rattle.std.proofs.Common.{◌<◌, sym, ◌∙◌, subst, ap, slice_index_or}
use Rattle.mfc_queue.specs.declared.place_set.PlaceSet.{PlaceSet}
use Rattle.mfc_queue.proofs.Holding.{held-none}
use Rattle.mfc_queue.proofs.PlaceLemmas.{place-small}
use Rattle.mfc_queue.proofs.Before.{empty-starts}
use Rattle.mfc_queue.proofs.Queue.may_start.Goals as goal

pub unreachable-requires : goal.unreachable-requires
unreachable-requires c = held-none _ c.args.cmd c.requires c.in-None.ensures.none

pub bounds-self-from : goal.bounds-self-from
bounds-self-from c = subst (λ p. p < 16) (sym c.from.ensures) (place-small _ _ c.in-Some.i c.held_at.result.now c.args.self.now.places c.in-Some.ensures.found.0 c.held_at.ensures)

pub returns : goal.returns
returns c = λ calls stands.
    let none : PlaceSet = record { bits = 0 } in
    c.is_empty.ensures
    ∙ empty-starts c.args.self.now calls c.in-Some.i c.args.cmd c.held_at.result.now _ none stands c.in-Some.ensures.found.0 c.held_at.ensures c.in-Some.ensures.found.1
    (ap (λ p. (slice_index_or c.args.self.now.before p none).bits) c.from.ensures)
