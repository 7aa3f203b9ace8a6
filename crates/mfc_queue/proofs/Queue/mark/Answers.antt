use Rattle.std.proofs.Common.{refl, ◌∙◌}
use Rattle.mfc_queue.specs.Sets.{has_part}
use Rattle.mfc_queue.proofs.Counting.{none-missing}
use Rattle.mfc_queue.proofs.Holding.{held-none, one_of, stands-mark, marked-all, groups-set}
use Rattle.mfc_queue.proofs.PlaceLemmas.{places-rewritten, found-rewritten}
use Rattle.mfc_queue.proofs.Queue.mark.Goals as goal

pub unreachable-requires : goal.unreachable-requires
unreachable-requires c = held-none _ c.args.cmd (one_of _ _ _ c.requires) c.in-None.ensures.none

pub returns-clause-stands : goal.returns-clause-stands
returns-clause-stands c = λ calls stands.
    stands-mark _ _ calls c.args.cmd c.args.part c.in-Some.i c.held_at.result.now _ stands c.requires refl c.put.ensures
    c.in-Some.ensures.found.0 c.in-Some.ensures.found.1 c.held_at.ensures c.mark-all.ensures.cmd c.mark-all.ensures.command c.mark-all.ensures.parts c.mark-all.ensures.done c.mark-all.ensures.place refl

pub invariant_of-self : goal.invariant_of-self
invariant_of-self c = record {
  places = places-rewritten _ _ _ c.in-Some.i c.held_at.result.now _ c.args.self.now.places c.in-Some.ensures.found.0 c.held_at.ensures c.mark-all.ensures.place c.put.ensures;
  sets = c.args.self.now.sets;
  groups = groups-set _ _ _ c.in-Some.i c.held_at.result.now _ c.args.self.now.groups c.put.ensures c.held_at.ensures c.mark-all.ensures.command;
}

pub returns-clause-places : goal.returns-clause-places
returns-clause-places c = λ other. found-rewritten _ _ c.in-Some.i other c.held_at.result.now _ c.in-Some.ensures.found.0 c.held_at.ensures c.mark-all.ensures.cmd c.mark-all.ensures.place c.put.ensures

pub returns-clause-all : goal.returns-clause-all
returns-clause-all c = λ calls stands.
    let h = c.mark-all.new.self in
    c.mark-all.ensures.all
    ∙ none-missing (has_part h.done.words) h.parts h.left h.counted
    ∙ marked-all _ calls c.args.cmd c.args.part c.in-Some.i c.held_at.result.now h stands c.in-Some.ensures.found.0 c.held_at.ensures c.in-Some.ensures.found.1 c.mark-all.ensures.parts c.mark-all.ensures.done h.few
