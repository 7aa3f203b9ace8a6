use Rattle.std.proofs.Common.{◌<◌, slice_set, refl, sym, ap, ◌∙◌, subst}
use Rattle.std.proofs.lemmas.List.{length-set}
use Rattle.std.specs.Prelude.{find, ◌==◌}
use Rattle.std.specs.Option.{option_map}
use Rattle.mfc_queue.specs.declared.Held.{Held}
use Rattle.mfc_queue.proofs.Holding.{stands-issue, groups-issued}
use Rattle.mfc_queue.proofs.PlaceLemmas.{places-issued, append-found, not-taken, room}
use Rattle.mfc_queue.proofs.Before.{issued-before}
use Rattle.mfc_queue.proofs.Queue.issue.Goals as goal

pub bounds-self-from : goal.bounds-self-from
bounds-self-from c = subst (λ p. p < 16) (sym c.from.ensures) (not-taken _ _ c.pop.new.self.items c.in-Some.place c.args.self.now.places c.in-Some.ensures.items).0

pub returns-clause-issued : goal.returns-clause-issued
returns-clause-issued c = λ calls stands.
    stands-issue _ _ calls c.args.c _ stands refl c.push.ensures.items
    (room _ _ c.pop.new.self.items c.in-Some.place c.args.self.now.places c.in-Some.ensures.items) refl refl refl c.new.ensures
    (issued-before c.args.self.now calls _ c.places_before-before.result _ _ _ stands c.push.ensures.items c.in-Some.ensures.items refl c.places_before-before.ensures
    (ap (λ p. slice_set c.args.self.now.before p c.places_before-before.result) c.from.ensures))

pub invariant_of-self-2 : goal.invariant_of-self-2
invariant_of-self-2 c = record { places = places-issued _ _ _ _ _ c.args.self.now.places c.push.ensures.items c.in-Some.ensures.items; sets = length-set c.args.self.now.before c.from.result c.places_before-before.result ∙ c.args.self.now.sets; groups = groups-issued _ _ _ c.args.c.tag _ c.args.self.now.groups c.push.ensures.items refl c.requires.tag }

pub returns-clause-places : goal.returns-clause-places
returns-clause-places c = λ other differs.
    ap (λ xs. option_map (λ (h : Held). h.place) (find (λ (h : Held). h.cmd == other) xs)) c.push.ensures.items
    ∙ ap (option_map (λ (h : Held). h.place)) (append-found _ _ other differs)
