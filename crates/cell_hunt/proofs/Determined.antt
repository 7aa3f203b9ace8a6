-- The choices of a seed make one run.
use Rattle.std.proofs.Common.{◌≡◌, ℕ, ◌-◌, ap, refl, sym, ◌∙◌, subst, List, ◌∷◌, length, true≢false}
use Rattle.std.specs.Prelude.{Option, Some, None, IfSome, is_some, Bool, true, false, if◌then◌else◌, slice_get}
use Rattle.std.specs.Option.{option_and_then, option_map_or}
use Rattle.std.proofs.lemmas.Option.{none-some, same_Some}
use Rattle.cell_base.specs.declared.steps.Step.{Step}
use Rattle.cell_base.specs.declared.steps.Step.TheVariants.{Exec, Piece, Elem, Retire, Atomic, Host}
use Rattle.cell_machine.specs.declared.effect.Effect.{Effect}
use Rattle.cell_machine.specs.Effects.{effect_in}
use Rattle.cell_machine.specs.Opening.{Opening}
use Rattle.cell_machine.specs.Spe.{Spe}
use Rattle.cell_machine.specs.Run.{Ran, next_of, spe_of}
use Rattle.cell_machine.proofs.MachineEffects.{effect-allowed}
use Rattle.cell_hunt.specs.declared.strategy.Strategy.{Strategy}
use Rattle.cell_hunt.specs.Choices.{Choices, key_of, lowered_by, lowers, strategy_now, walked, with_new_keys, with_word, with_words, word_of, IsBest, IsChosen, IsDrawn, IsDrawnBy, IsFound, IsLowered, IsMade, IsNext, IsTop}
use Rattle.cell_hunt.specs.Ends.{IsOver}
use Rattle.cell_hunt.specs.Locals.{going_on, is_local, is_local_at, local_behind}
use Rattle.cell_hunt.specs.Offers.{offers}
use Rattle.cell_hunt.specs.Runs.{Makes, End, Then, with_step, IsRunOfSeed}
use Rattle.cell_hunt.proofs.Bests.{greatest-one}
use Rattle.cell_hunt.proofs.Offering.{greatest-allowed}
use Rattle.cell_hunt.proofs.Walking.{walked-allowed}

-- ---- a chosen step is allowed

pub local_allowed : (m : Ran) (p : ℕ) → is_local_at m p ≡ true → is_some (next_of m (Exec p)) ≡ true
local_allowed m p h = (effect-allowed m (Exec p) (effect_in m (Exec p)) refl).0 (on (spe_of m p) (effect_in m (Exec p)) h)
  where
    on : (o : Option Spe) (e : Option Effect) → option_map_or (λ P. option_map_or (is_local P) e false) o false ≡ true → is_some e ≡ true
    on None e h = absurd (true≢false (sym h))
    on (Some P) None h = absurd (true≢false (sym h))
    on (Some P) (Some e) h = refl

behind_allowed : (m : Ran) (last s : Step) → local_behind m last ≡ Some s → is_some (next_of m s) ≡ true
behind_allowed m (Exec p) s h = on (is_local_at m p) refl h
  where
    on : (o : Bool) → is_local_at m p ≡ o → (if o then Some (Exec p) else None) ≡ Some s → is_some (next_of m s) ≡ true
    on true e g = subst (λ x. is_some (next_of m x) ≡ true) (same_Some (Exec p) s g) (local_allowed m p e)
    on false e g = absurd (none-some s g)
behind_allowed m (Piece p c e k) s h = absurd (none-some s h)
behind_allowed m (Elem p c) s h = absurd (none-some s h)
behind_allowed m (Retire p c) s h = absurd (none-some s h)
behind_allowed m (Atomic p) s h = absurd (none-some s h)
behind_allowed m Host s h = absurd (none-some s h)

going_allowed : (m : Ran) (strategy : Strategy) (s : Step) → going_on m strategy ≡ Some s → is_some (next_of m s) ≡ true
going_allowed m strategy s h = on strategy.local h
  where
    last : (o : Option Step) → option_and_then (local_behind m) o ≡ Some s → is_some (next_of m s) ≡ true
    last None e = absurd (none-some s e)
    last (Some t) e = behind_allowed m t s e

    on : (b : Bool) → (if b then option_and_then (local_behind m) (slice_get m.steps (length m.steps - 1)) else None) ≡ Some s → is_some (next_of m s) ≡ true
    on true e = last (slice_get m.steps (length m.steps - 1)) e
    on false e = absurd (none-some s e)

top-allowed : (m : Ran) (strategy : Strategy) (word : ℕ) (c : Choices) (s : Step) (left : Choices) → IsTop m strategy word c s left → is_some (next_of m s) ≡ true
top-allowed m strategy word c s left is = greatest-allowed m word (key_of m strategy c.keys) s is.best

made-allowed : (b : Bool) (m : Ran) (strategy : Strategy) (word : ℕ) (c : Choices) (s : Step) (left : Choices) → IsMade b m strategy word c s left → is_some (next_of m s) ≡ true
made-allowed true m strategy word c s left is = greatest-allowed m word (key_of m strategy left.keys) s is.best
made-allowed false m strategy word c s left is = top-allowed m strategy word c s left is

found-allowed : (o : Option Step) (m : Ran) (strategy : Strategy) (word : ℕ) (c : Choices) (s : Step) (left : Choices) → IfSome o (λ t. is_some (next_of m t) ≡ true) → IsFound o m strategy word c s left → is_some (next_of m s) ≡ true
found-allowed (Some t) m strategy word c s left allowed is = subst (λ x. is_some (next_of m x) ≡ true) (sym is.0) allowed
found-allowed None m strategy word c s left allowed is = top-allowed m strategy word (with_new_keys c) s left is

drawn-allowed : (m : Ran) (strategy : Strategy) (c : Choices) (s : Step) (left : Choices) → IsDrawn m strategy c s left → is_some (next_of m s) ≡ true
drawn-allowed m strategy c s left is = on strategy.walks is
  where
    word : ℕ
    word = word_of c.words

    on : (b : Bool) → IsDrawnBy b m strategy word (with_word c) s left → is_some (next_of m s) ≡ true
    on true how = found-allowed (walked m strategy word 8 (with_word c).words).step m strategy word (with_words (with_word c) (walked m strategy word 8 (with_word c).words).words) s left (walked-allowed m strategy word 8 (with_word c).words) how
    on false how = made-allowed (lowers (with_word c)) m strategy word (with_word (with_word c)) s left how

pub chosen-allowed : (m : Ran) (c : Choices) (s : Step) (left : Choices) → IsChosen m c s left → is_some (next_of m s) ≡ true
chosen-allowed m c s left is = on (going_on m (strategy_now m c)) refl is
  where
    on : (o : Option Step) → going_on m (strategy_now m c) ≡ o → IsNext o m (strategy_now m c) c s left → is_some (next_of m s) ≡ true
    on (Some t) e how = subst (λ x. is_some (next_of m x) ≡ true) (sym how.0) (going_allowed m (strategy_now m c) t e)
    on None e how = drawn-allowed m (strategy_now m c) c s left how

-- so the run isn't over
pub not_over : (m : Ran) (c : Choices) (s : Step) (left : Choices) → IsChosen m c s left → IsOver m → ⊥
not_over m c s left is over = true≢false (sym (chosen-allowed m c s left is) ∙ ap is_some (over s))

-- ---- and there is one

lowered_one : (m : Ran) (strategy : Strategy) (word : ℕ) (c : Choices) (s t : Step) (left right : Choices) → IsLowered m strategy word c s left → IsLowered m strategy word c t right → (s ≡ t) × (left ≡ right)
lowered_one m strategy word c s t left right a b =
    let top : a.top ≡ b.top = greatest-one (key_of m strategy c.keys) (offers m word) a.top b.top a.was b.was in
    let same : left ≡ right = a.leaves ∙ ap (lowered_by m c) top ∙ sym b.leaves in
    let there : IsBest m strategy word right.keys s = subst (λ (x : Choices). IsBest m strategy word x.keys s) same a.best in
    (greatest-one (key_of m strategy right.keys) (offers m word) s t there b.best, same)

top_one : (m : Ran) (strategy : Strategy) (word : ℕ) (c : Choices) (s t : Step) (left right : Choices) → IsTop m strategy word c s left → IsTop m strategy word c t right → (s ≡ t) × (left ≡ right)
top_one m strategy word c s t left right a b = (greatest-one (key_of m strategy c.keys) (offers m word) s t a.best b.best, a.leaves ∙ sym b.leaves)

made_one : (b : Bool) (m : Ran) (strategy : Strategy) (word : ℕ) (c : Choices) (s t : Step) (left right : Choices) → IsMade b m strategy word c s left → IsMade b m strategy word c t right → (s ≡ t) × (left ≡ right)
made_one true m strategy word c s t left right x y = lowered_one m strategy word c s t left right x y
made_one false m strategy word c s t left right x y = top_one m strategy word c s t left right x y

found_one : (o : Option Step) (m : Ran) (strategy : Strategy) (word : ℕ) (c : Choices) (s t : Step) (left right : Choices) → IsFound o m strategy word c s left → IsFound o m strategy word c t right → (s ≡ t) × (left ≡ right)
found_one (Some x) m strategy word c s t left right a b = (a.0 ∙ sym b.0, a.1 ∙ sym b.1)
found_one None m strategy word c s t left right a b = top_one m strategy word (with_new_keys c) s t left right a b

drawn_one : (m : Ran) (strategy : Strategy) (c : Choices) (s t : Step) (left right : Choices) → IsDrawn m strategy c s left → IsDrawn m strategy c t right → (s ≡ t) × (left ≡ right)
drawn_one m strategy c s t left right a b = on strategy.walks a b
  where
    word : ℕ
    word = word_of c.words

    on : (walks : Bool) → IsDrawnBy walks m strategy word (with_word c) s left → IsDrawnBy walks m strategy word (with_word c) t right → (s ≡ t) × (left ≡ right)
    on true x y =
        found_one (walked m strategy word 8 (with_word c).words).step m strategy word (with_words (with_word c) (walked m strategy word 8 (with_word c).words).words) s t left right x y
    on false x y = made_one (lowers (with_word c)) m strategy word (with_word (with_word c)) s t left right x y

next_one : (o : Option Step) (m : Ran) (strategy : Strategy) (c : Choices) (s t : Step) (left right : Choices) → IsNext o m strategy c s left → IsNext o m strategy c t right → (s ≡ t) × (left ≡ right)
next_one (Some on) m strategy c s t left right a b = (a.0 ∙ sym b.0, a.1 ∙ sym b.1)
next_one None m strategy c s t left right a b = drawn_one m strategy c s t left right a b

chosen-one : (m : Ran) (c : Choices) (s t : Step) (left right : Choices) → IsChosen m c s left → IsChosen m c t right → (s ≡ t) × (left ≡ right)
chosen-one m c s t left right a b = next_one (going_on m (strategy_now m c)) m (strategy_now m c) c s t left right a b

makes-one : {c : Choices} {m : Ran} {xs ys : List Step} → Makes c m xs → Makes c m ys → xs ≡ ys
makes-one (End over) (End other) = refl
makes-one {c = c} {m = m} (End over) (Then {left = left} {s = s} chosen rest) = absurd (not_over m c s left chosen over)
makes-one {c = c} {m = m} (Then {left = left} {s = s} chosen rest) (End over) = absurd (not_over m c s left chosen over)
makes-one {c = c} {m = m} (Then {left = left} {s = s} {steps = xs} chosen rest) (Then {left = right} {s = t} {steps = ys} other more) =
    let one = chosen-one m c s t left right chosen other in
    let moved : Makes left (with_step m s) ys = subst (λ x. Makes left (with_step m x) ys) (sym one.0) (subst (λ l. Makes l (with_step m t) ys) (sym one.1) more) in
    ap (λ x. x ∷ xs) one.0 ∙ ap (λ zs. t ∷ zs) (makes-one rest moved)

pub run-one : (opening : Opening) (seed run : ℕ) (m n : Ran) → IsRunOfSeed opening seed run m → IsRunOfSeed opening seed run n → m ≡ n
run-one opening seed run m n a b =
    let setups : m.setup ≡ n.setup = a.setup ∙ sym b.setup in
    let steps : m.steps ≡ n.steps = makes-one a.made b.made in
    let first : m ≡ record { setup = n.setup; steps = m.steps } = ap (λ (x : Opening). let r : Ran = record { setup = x; steps = m.steps } in r) setups in
    first ∙ ap (λ (xs : List Step). let r : Ran = record { setup = n.setup; steps = xs } in r) steps
