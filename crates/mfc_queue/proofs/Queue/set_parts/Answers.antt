use Rattle.std.proofs.Common.{refl, sym, ◌∙◌, ap}
use Rattle.mfc_queue.specs.declared.Held.{Held}
use Rattle.mfc_queue.proofs.Holding.{held-none, stands-parts, groups-set}
use Rattle.mfc_queue.specs.Sets.{has_part}
use Rattle.mfc_queue.proofs.Counting.{count-none}
use Rattle.mfc_queue.proofs.PlaceLemmas.{places-rewritten, found-rewritten}
use Rattle.mfc_queue.proofs.Queue.set_parts.Goals as goal

pub unreachable-requires : goal.unreachable-requires
unreachable-requires c = held-none _ c.args.cmd c.requires.there c.in-None.ensures.none

pub returns-clause-stands : goal.returns-clause-stands
returns-clause-stands c = λ calls stands.
    stands-parts _ _ calls c.args.cmd c.args.n c.in-Some.i c.held_at-h.result.now _ stands c.requires.there refl c.put.ensures
    c.in-Some.ensures.found.0 c.in-Some.ensures.found.1 c.held_at-h.ensures refl refl refl c.new.ensures refl refl

pub invariant_of-self : goal.invariant_of-self
invariant_of-self c = record { places = places-rewritten _ _ _ c.in-Some.i c.held_at-h.result.now _ c.args.self.now.places c.in-Some.ensures.found.0 c.held_at-h.ensures refl c.put.ensures; sets = c.args.self.now.sets; groups = groups-set _ _ _ c.in-Some.i c.held_at-h.result.now _ c.args.self.now.groups c.put.ensures c.held_at-h.ensures refl }

pub returns-clause-places : goal.returns-clause-places
returns-clause-places c = λ other.
    found-rewritten _ _ c.in-Some.i other c.held_at-h.result.now _ c.in-Some.ensures.found.0 c.held_at-h.ensures
    (sym (ap (λ (h : Held). h.cmd) c.held_at-h.ensures ∙ c.in-Some.ensures.found.1 c.held_at-h.result.now)) refl c.put.ensures

pub invariant_of-begun : goal.invariant_of-begun
invariant_of-begun c = record { tag = c.held_at-h.result.now.tag; few = c.requires.few; counted = count-none (has_part c.new.result.words) 0 c.args.n c.new.ensures }
