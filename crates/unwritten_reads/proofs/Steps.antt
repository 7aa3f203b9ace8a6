-- The known bytes and the unwritten reads of a run when it makes one more step.
use Rattle.std.proofs.Common.{◌≡◌, ℕ, zero, suc, ◌+◌, ◌<◌, ◌≤◌, ap, refl, sym, subst, ◌∙◌, arith, List, [], ◌∷◌, ◌++◌, length, inl, inr}
use Rattle.std.specs.Prelude.{◌⊎◌, true, Some, slice_get}
use Rattle.std.proofs.lemmas.Bool.{cases_lt}
use Rattle.std.proofs.lemmas.List.{length_push, take-append-le, take_all}
use Rattle.std.proofs.lemmas.Option.{same_Some, slice_get_within}
use Rattle.cell_base.specs.declared.steps.Step.{Step}
use Rattle.cell_machine.specs.declared.effect.Effect.{Effect}
use Rattle.cell_machine.specs.Effects.{effect_in}
use Rattle.cell_machine.specs.Run.{Ran}
use Rattle.unwritten_reads.specs.declared.unwritten.Unwritten.{Unwritten}
use Rattle.unwritten_reads.specs.Reads.{IsKnown, IsMade, IsUnwritten, touches, up_to, with_step}

get-front : {A : Type 0} (xs ys : List A) (k : ℕ) → k < length xs → slice_get (xs ++ ys) k ≡ slice_get xs k
get-front [] ys k low = absurd (omega (arith, low))
get-front (x ∷ xs) ys zero low = refl
get-front (x ∷ xs) ys (suc k) low = get-front xs ys k (omega (arith, low))

get-last : {A : Type 0} (xs : List A) (x : A) → slice_get (xs ++ x ∷ []) (length xs) ≡ Some x
get-last [] x = refl
get-last (y ∷ xs) x = get-last xs x

module _ (m : Ran) (s : Step) where
  abbrev n : Ran
  n = with_step m s

  abbrev last : ℕ
  last = length m.steps

  long : length n.steps ≡ last + 1
  long = length_push m.steps s

  left : (k : ℕ) → k ≤ last → up_to n k ≡ up_to m k
  left k low = ap (λ (xs : List Step). let r : Ran = record m { steps = xs } in r) (take-append-le k m.steps (s ∷ []) low)

  whole : up_to n last ≡ m
  whole = left last (omega arith) ∙ ap (λ (xs : List Step). let r : Ran = record m { steps = xs } in r) (take_all last m.steps (omega arith))

  made-on : (k : ℕ) (t : Step) (d : Effect) → IsMade m k t d → IsMade n k t d
  made-on k t d made =
      let low : k < last = slice_get_within m.steps k t made.at in
      record { at = get-front m.steps (s ∷ []) k low ∙ made.at; effect = ap (λ (r : Ran). effect_in r t) (left k (omega (arith, low))) ∙ made.effect }

  made-back : (k : ℕ) (t : Step) (d : Effect) → k < last → IsMade n k t d → IsMade m k t d
  made-back k t d low made =
      record { at = sym (get-front m.steps (s ∷ []) k low) ∙ made.at; effect = ap (λ (r : Ran). effect_in r t) (sym (left k (omega (arith, low)))) ∙ made.effect }

  made-inside : (k : ℕ) (t : Step) (d : Effect) → IsMade n k t d → (k < last) ⊎ (k ≡ last)
  made-inside k t d made = by (cases_lt k last)
    where
      by : (k < last) ⊎ (last ≤ k) → (k < last) ⊎ (k ≡ last)
      by (inl low) = inl low
      by (inr high) = (let within = slice_get_within n.steps k t made.at in let more = long in inr (omega (arith, within, more, high)))

  pub known-on : (i p x : ℕ) → IsKnown m i p x → IsKnown n i p x
  known-on i p x (inl placed) = inl placed
  known-on i p x (inr t) = inr (record { place = t.place; step = t.step; effect = t.effect; before = t.before; made = made-on t.place t.step t.effect t.made; touch = t.touch })

  pub known-back : (i p x : ℕ) → i ≤ last → IsKnown n i p x → IsKnown m i p x
  known-back i p x low (inl placed) = inl placed
  known-back i p x low (inr t) =
      let before = t.before in
      inr (record { place = t.place; step = t.step; effect = t.effect; before = before; made = made-back t.place t.step t.effect (omega (arith, before, low)) t.made; touch = t.touch })

  pub unwritten-on : (u : Unwritten) → IsUnwritten m u → IsUnwritten n u
  unwritten-on u h =
      let low : u.place < last = slice_get_within m.steps u.place h.step h.made.at in
      let upto : u.place ≤ last = omega (arith, low) in
      record {
        step = h.step;
        effect = h.effect;
        made = made-on u.place h.step h.effect h.made;
        read = h.read;
        unknown = λ known. h.unknown (known-back u.place u.spe u.at upto known);
        first = λ x less is. known-on u.place u.spe x (h.first x less is);
        none = λ is x has known. h.none is x has (known-back u.place u.spe x upto known);
      }

  pub unwritten-back : (u : Unwritten) → u.place < last → IsUnwritten n u → IsUnwritten m u
  unwritten-back u low h =
      let upto : u.place ≤ last = omega (arith, low) in
      record {
        step = h.step;
        effect = h.effect;
        made = made-back u.place h.step h.effect low h.made;
        read = h.read;
        unknown = λ known. h.unknown (known-on u.place u.spe u.at known);
        first = λ x less is. known-back u.place u.spe x upto (h.first x less is);
        none = λ is x has known. h.none is x has (known-on u.place u.spe x known);
      }

  pub unwritten-inside : (u : Unwritten) → IsUnwritten n u → (u.place < last) ⊎ (u.place ≡ last)
  unwritten-inside u h = made-inside u.place h.step h.effect h.made

  module _ (e : Effect) (has_effect : effect_in m s ≡ Some e) where
    pub made-last : (k : ℕ) → k ≡ last → IsMade n k s e
    made-last k end = subst (λ (j : ℕ). IsMade n j s e) (sym end) (record { at = get-last m.steps s; effect = ap (λ (r : Ran). effect_in r s) whole ∙ has_effect })

    pub made-end : (k : ℕ) (t : Step) (d : Effect) → k ≡ last → IsMade n k t d → (t ≡ s) × (d ≡ e)
    made-end k t d end made =
        let at : slice_get n.steps last ≡ Some t = ap (slice_get n.steps) (sym end) ∙ made.at in
        let step_is : t ≡ s = same_Some t s (sym at ∙ get-last m.steps s) in
        let run_is : up_to n k ≡ m = ap (up_to n) end ∙ whole in (
          step_is,
          same_Some d e (sym made.effect ∙ ap (λ (r : Ran). effect_in r t) run_is ∙ ap (effect_in m) step_is ∙ has_effect),
        )

    -- the bytes that are known after the step are those before it, and those that it touches
    pub known-more : (p x : ℕ) → IsKnown n (length n.steps) p x → IsKnown m last p x ⊎ (touches e p x ≡ true)
    known-more p x (inl placed) = inl (inl placed)
    known-more p x (inr t) = by (made-inside t.place t.step t.effect t.made)
      where
        by : (t.place < last) ⊎ (t.place ≡ last) → IsKnown m last p x ⊎ (touches e p x ≡ true)
        by (inl low) = inl (inr (record { place = t.place; step = t.step; effect = t.effect; before = low; made = made-back t.place t.step t.effect low t.made; touch = t.touch }))
        by (inr end) = inr (sym (ap (λ (d : Effect). touches d p x) (made-end t.place t.step t.effect end t.made).1) ∙ t.touch)

    pub known-old : (p x : ℕ) → IsKnown m last p x → IsKnown n (length n.steps) p x
    known-old p x (inl placed) = inl placed
    known-old p x (inr t) =
        let before = t.before in
        let more = long in
        inr (record { place = t.place; step = t.step; effect = t.effect; before = omega (arith, before, more); made = made-on t.place t.step t.effect t.made; touch = t.touch })

    pub known-new : (p x : ℕ) → touches e p x ≡ true → IsKnown n (length n.steps) p x
    known-new p x touch =
        let more = long in
        inr (record { place = last; step = s; effect = e; before = omega (arith, more); made = made-last last refl; touch = touch })
