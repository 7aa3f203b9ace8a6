use Rattle.std.proofs.Common.{◌<◌, Some, ap, sym, ◌∙◌, subst}
use Rattle.std.specs.Prelude.{is_some}
use Rattle.std.specs.Option.{option_map}
use Rattle.mfc_queue.specs.declared.Held.{Held}
use Rattle.mfc_queue.proofs.Holding.{held-is}
use Rattle.mfc_queue.proofs.PlaceLemmas.{place-small, find-place, own-other}
use Rattle.mfc_queue.proofs.Queue.place.Goals as goal

pub returns-in-Some-clause-small : goal.returns-in-Some-clause-small
returns-in-Some-clause-small c = subst (λ p. p < 16) (sym c.from.ensures) (place-small _ _ c.in-Some.i c.held_at.result.now c.args.self.now.places c.in-Some.ensures.found.0 c.held_at.ensures)

pub returns-in-Some-clause-outstanding : goal.returns-in-Some-clause-outstanding
returns-in-Some-clause-outstanding c = λ calls stands. sym (ap is_some c.in-Some.is) ∙ held-is _ calls c.args.cmd c.search.result stands c.search.ensures.found c.search.ensures.none

pub returns-in-Some-clause-place : goal.returns-in-Some-clause-place
returns-in-Some-clause-place c =
    ap Some c.from.ensures
    ∙ sym (ap (option_map (λ (h : Held). h.place)) (find-place _ c.in-Some.i c.args.cmd c.held_at.result.now c.in-Some.ensures.found.0 c.held_at.ensures c.in-Some.ensures.first))

pub returns-in-Some-clause-own : goal.returns-in-Some-clause-own
returns-in-Some-clause-own c = λ other is.
    own-other _ _ c.args.cmd other c.held_at.result.now c.args.self.now.places
    (find-place _ c.in-Some.i c.args.cmd c.held_at.result.now c.in-Some.ensures.found.0 c.held_at.ensures c.in-Some.ensures.first)
    (is ∙ ap Some c.from.ensures)

pub returns-in-None-clause-outstanding : goal.returns-in-None-clause-outstanding
returns-in-None-clause-outstanding c = λ calls stands. sym (ap is_some c.in-None.is) ∙ held-is _ calls c.args.cmd c.search.result stands c.search.ensures.found c.search.ensures.none
