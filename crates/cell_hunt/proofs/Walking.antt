-- The actors that a walk draws, one after the other.
use Rattle.std.proofs.Common.{◌≡◌, ℕ, zero, suc, ◌+◌, ◌-◌, ◌<◌, ap, refl, sym, subst, ◌∙◌, arith, length, true≢false}
use Rattle.std.specs.Prelude.{Option, Some, None, IfSome, is_some, Bool, true, false, nat_lt, if◌then◌else◌}
use Rattle.std.specs.Option.{option_and_then}
use Rattle.std.proofs.lemmas.Option.{none-some}
use Rattle.cell_base.specs.declared.steps.Actor.{Actor}
use Rattle.cell_base.specs.declared.steps.Step.{Step}
use Rattle.cell_machine.specs.State.{State}
use Rattle.cell_machine.specs.Next.{next}
use Rattle.cell_machine.specs.Run.{Ran, next_of, picked, picked_of, state_of}
use Rattle.cell_machine.proofs.AnyStep.{picked-next}
use Rattle.rand_pcg.specs.Lcg.{Lcg}
use Rattle.cell_hunt.specs.declared.strategy.Strategy.{Strategy}
use Rattle.cell_hunt.specs.Choices.{after_word, or_later, walked, word_of, Walked}
use Rattle.cell_hunt.specs.Strategies.{actor_drawn}

walked-suc : (m : Ran) (strategy : Strategy) (word n : ℕ) (g : Lcg)
    → walked m strategy word (suc n) g ≡ or_later (picked_of m (actor_drawn strategy (length m.setup.entries) (word_of g)) word) (after_word g) (walked m strategy word n (after_word g))
unfolding walked
walked-suc m strategy word n g = refl

walked-zero : (m : Ran) (strategy : Strategy) (word : ℕ) (g : Lcg) → walked m strategy word zero g ≡ record { step = None; words = g }
unfolding walked
walked-zero m strategy word g = refl

walked-more : (m : Ran) (strategy : Strategy) (word tried : ℕ) (g : Lcg) (o : Option Step) → tried < 8 → o ≡ picked_of m (actor_drawn strategy (length m.setup.entries) (word_of g)) word
    → walked m strategy word (8 - tried) g ≡ or_later o (after_word g) (walked m strategy word (8 - (tried + 1)) (after_word g))
walked-more m strategy word tried g o few is =
    let n : 8 - tried ≡ suc (8 - (tried + 1)) = omega arith in
    ap (λ k. walked m strategy word k g) n ∙ walked-suc m strategy word (8 - (tried + 1)) g
    ∙ ap (λ x. or_later x (after_word g) (walked m strategy word (8 - (tried + 1)) (after_word g))) (sym is)

pub some-found : (o : Option Step) → is_some o ≡ true → (s : Step) × (o ≡ Some s)
some-found None h = absurd (true≢false (sym h))
some-found (Some s) h = (s, refl)

pub none-left : (o : Option Step) → is_some o ≡ false → o ≡ None
none-left None h = refl
none-left (Some s) h = absurd (true≢false h)

-- an actor without a step
pub walk-on : (m : Ran) (strategy : Strategy) (word tried : ℕ) (first g next : Lcg) (o : Option Step) → tried < 8 → o ≡ picked_of m (actor_drawn strategy (length m.setup.entries) (word_of g)) word → o ≡ None → next ≡ after_word g
    → walked m strategy word 8 first ≡ walked m strategy word (8 - tried) g → walked m strategy word 8 first ≡ walked m strategy word (8 - (tried + 1)) next
walk-on m strategy word tried first g next o few is none on so_far =
    so_far ∙ walked-more m strategy word tried g o few is
    ∙ ap (λ x. or_later x (after_word g) (walked m strategy word (8 - (tried + 1)) (after_word g))) none
    ∙ ap (λ x. walked m strategy word (8 - (tried + 1)) x) (sym on)

-- an actor with one
pub walk-found : (m : Ran) (strategy : Strategy) (word tried : ℕ) (first g next : Lcg) (o : Option Step) (s : Step) → tried < 8 → o ≡ picked_of m (actor_drawn strategy (length m.setup.entries) (word_of g)) word → o ≡ Some s → next ≡ after_word g
    → walked m strategy word 8 first ≡ walked m strategy word (8 - tried) g → (o ≡ (walked m strategy word 8 first).step) × (next ≡ (walked m strategy word 8 first).words)
walk-found m strategy word tried first g next o s few is some on so_far =
    let all = so_far ∙ walked-more m strategy word tried g o few is ∙ ap (λ x. or_later x (after_word g) (walked m strategy word (8 - (tried + 1)) (after_word g))) some in
    (some ∙ sym (ap (λ (w : Walked). w.step) all), on ∙ sym (ap (λ (w : Walked). w.words) all))

-- none of eight has one
pub walk-over : (m : Ran) (strategy : Strategy) (word tried : ℕ) (first g : Lcg) → tried ≡ 8 → walked m strategy word 8 first ≡ walked m strategy word (8 - tried) g
    → (None ≡ (walked m strategy word 8 first).step) × (g ≡ (walked m strategy word 8 first).words)
walk-over m strategy word tried first g over so_far =
    let n : 8 - tried ≡ zero = omega (arith, over) in
    let all = so_far ∙ ap (λ k. walked m strategy word k g) n ∙ walked-zero m strategy word g in
    (sym (ap (λ (w : Walked). w.step) all), sym (ap (λ (w : Walked). w.words) all))

-- ---- a step that is found is allowed

pick-next : (m : Ran) (actor : Actor) (choice : ℕ) (s : Step) → picked_of m actor choice ≡ Some s → is_some (next_of m s) ≡ true
pick-next m actor choice s h = on (nat_lt (length m.steps) m.setup.budget) (state_of m) h
  where
    on : (under : Bool) (o : Option State) → (if under then option_and_then (λ M. picked M actor choice) o else None) ≡ Some s
        → is_some (if under then option_and_then (λ M. next M s) o else None) ≡ true
    on true None g = absurd (none-some s g)
    on true (Some M) g = picked-next M actor choice s g
    on false o g = absurd (none-some s g)

abbrev IsAllowed : Ran → Option Step → Type 0
IsAllowed m o = IfSome o (λ s. is_some (next_of m s) ≡ true)

or-later-allowed : (m : Ran) (o : Option Step) (g : Lcg) (later : Walked) → ((s : Step) → o ≡ Some s → is_some (next_of m s) ≡ true) → IsAllowed m later.step → IsAllowed m (or_later o g later).step
or-later-allowed m (Some s) g later first rest = first s refl
or-later-allowed m None g later first rest = rest

pub walked-allowed : (m : Ran) (strategy : Strategy) (word n : ℕ) (g : Lcg) → IfSome (walked m strategy word n g).step (λ s. is_some (next_of m s) ≡ true)
walked-allowed m strategy word zero g = subst (λ (w : Walked). IsAllowed m w.step) (sym (walked-zero m strategy word g)) tt
walked-allowed m strategy word (suc n) g =
    subst (λ (w : Walked). IsAllowed m w.step) (sym (walked-suc m strategy word n g))
    (or-later-allowed m (picked_of m (actor_drawn strategy (length m.setup.entries) (word_of g)) word) (after_word g) (walked m strategy word n (after_word g))
    (λ s e. pick-next m (actor_drawn strategy (length m.setup.entries) (word_of g)) word s e) (walked-allowed m strategy word n (after_word g)))
