use Rattle.std.proofs.Common.{ℕ, ◌⊎◌, List, inl, inr, refl, sym, ap, ◌∙◌, subst}
use Rattle.std.proofs.lemmas.Option.{none-some, same_Some}
use Rattle.run_permute.specs.SettledLists.{IsIn}
use Rattle.run_permute.specs.Choices.{IsSeen, IsSound}
use Rattle.run_permute.specs.declared.order.Order.{Order}
use Rattle.run_permute.proofs.Entries.{front-behind, front-first}
use Rattle.run_permute.proofs.Frees.{seen-few}
use Rattle.run_permute.proofs.order.Order.look_at_few.Goals.{in-Some+in_ok-look_at, in_default}
use Rattle.run_permute.proofs.order.Order.look_at_few.Goals as goal

pub look_at-requires-clause-within : goal.look_at-requires-clause-within
look_at-requires-clause-within c =
    let few = c.args.few.now in
    c.requires.within c.in-Some.step (front-first few.first c.in-Some.step few.rest.items (sym c.first.ensures ∙ c.in-Some.is))

pub look_at_all-requires-clause-within : goal.look_at_all-requires-clause-within
look_at_all-requires-clause-within c = λ k h. c.requires.within k (front-behind c.args.few.now.first c.args.few.now.rest.items k (subst (IsIn k) c.rest.ensures h))

pub look_at_all-requires-clause-sound : goal.look_at_all-requires-clause-sound
look_at_all-requires-clause-sound c =
    elim c.match-first.branch [
      | in-Some+in_ok-look_at w ↦ subst (IsSound c.args.needs.now) (sym w.self-is) w.in_ok-look_at.ensures.sound
      | in_default w ↦ subst (IsSound c.args.needs.now) (sym w.self-is) c.requires.sound
    ]

pub returns-clause-steps : goal.returns-clause-steps
returns-clause-steps c =
    elim c.match-first.branch [
      | in-Some+in_ok-look_at w ↦ c.look_at_all.ensures.steps ∙ ap (λ (o : Order). o.steps) w.self-is ∙ w.look_at.ensures.steps
      | in_default w ↦ c.look_at_all.ensures.steps ∙ ap (λ (o : Order). o.steps) w.self-is
    ]

pub returns-clause-seen : goal.returns-clause-seen
returns-clause-seen c =
    let needs = c.args.needs.now in
    let few = c.args.few.now in
    let rest = subst (λ (xs : List ℕ). (k : ℕ) → IsSeen needs c.match-first.self k ⊎ IsIn k xs → IsSeen needs c.look_at_all.new.self k) c.rest.ensures c.in_ok-look_at_all.ensures.seen in
    elim c.match-first.branch [
      | in-Some+in_ok-look_at w ↦
          seen-few (IsSeen needs c.args.self.now) (IsSeen needs c.match-first.self) (IsSeen needs c.look_at_all.new.self) few.first few.rest.items
          (λ k h. subst (λ (o : Order). IsSeen needs o k) (sym w.self-is) (w.in_ok-look_at.ensures.seen k (inl h)))
          (λ y here. subst (λ (o : Order). IsSeen needs o y) (sym w.self-is) (w.in_ok-look_at.ensures.seen y (inr (same_Some y w.in-Some.step (sym here ∙ sym c.first.ensures ∙ w.in-Some.is))))) rest
      | in_default w ↦
          seen-few (IsSeen needs c.args.self.now) (IsSeen needs c.match-first.self) (IsSeen needs c.look_at_all.new.self) few.first few.rest.items
          (λ k h. subst (λ (o : Order). IsSeen needs o k) (sym w.self-is) h)
          (λ y here. absurd (none-some y (sym w.in_default.is ∙ c.first.ensures ∙ here))) rest
    ]
