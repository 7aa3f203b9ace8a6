use Rattle.std.proofs.Common.{sym, ◌∙◌, subst}
use Rattle.std.proofs.lemmas.Option.{none-some, same_Some}
use Rattle.run_permute.specs.SettledLists.{IsIn}
use Rattle.run_permute.specs.Choices.{IsTaken}
use Rattle.run_permute.proofs.Entries.{front-behind, front-each, front-first}
use Rattle.run_permute.proofs.Frees.{flagged, not-flagged}
use Rattle.run_permute.proofs.order.need_left.Goals as goal

pub last_left-requires : goal.last_left-requires
last_left-requires c = λ i h. c.requires i (front-behind c.args.needs.now.first c.args.needs.now.rest.items i (subst (IsIn i) c.rest.ensures h))

pub returns-in-Some : goal.returns-in-Some
returns-in-Some c = (front-behind c.args.needs.now.first c.args.needs.now.rest.items c.in-Some.need (subst (IsIn c.in-Some.need) c.rest.ensures c.in-Some.ensures.0), c.in-Some.ensures.1)

pub returns-in_default-first : goal.returns-in_default-first
returns-in_default-first c =
    let needs = c.args.needs.now in
    front-each (IsTaken c.args.taken.now) needs.first needs.rest.items (λ y is. absurd (none-some y (sym c.in_default-first.is ∙ c.first.ensures ∙ is))) (λ i h. c.in_default.ensures i (subst (IsIn i) (sym c.rest.ensures) h))

pub bounds-taken-need : goal.bounds-taken-need
bounds-taken-need c =
    let needs = c.args.needs.now in
    let need = c.in-Some-first.need in
    c.requires need (front-first needs.first need needs.rest.items (sym c.first.ensures ∙ c.in-Some-first.is))

pub returns-then-taken-need : goal.returns-then-taken-need
returns-then-taken-need c =
    let needs = c.args.needs.now in
    let need = c.in-Some-first.need in
    let is = sym c.first.ensures ∙ c.in-Some-first.is in
    let low = c.requires need (front-first needs.first need needs.rest.items is) in
    front-each (IsTaken c.args.taken.now) needs.first needs.rest.items (λ y here. subst (IsTaken c.args.taken.now) (same_Some need y (sym is ∙ here)) (flagged c.args.taken.now need low c.if-taken-need.true)) (λ i h. c.in_default.ensures i (subst (IsIn i) (sym c.rest.ensures) h))

pub returns : goal.returns
returns c =
    let needs = c.args.needs.now in
    let need = c.in-Some-first.need in
    (front-first needs.first need needs.rest.items (sym c.first.ensures ∙ c.in-Some-first.is), not-flagged c.args.taken.now need c.if-taken-need.false)
