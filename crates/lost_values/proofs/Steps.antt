-- The values of a run when it makes one more step.
use Rattle.std.proofs.Common.{◌≡◌, ℕ, ◌+◌, ◌<◌, ◌≤◌, ap, refl, sym, ◌∙◌, arith, List, [], ◌∷◌, length, inl, inr, true≢false}
use Rattle.std.specs.Prelude.{◌⊎◌, Bool, true, false, Some, slice_get}
use Rattle.std.proofs.lemmas.Bool.{cases_Bool, cases_lt}
use Rattle.std.proofs.lemmas.List.{length_push, take-append-le, take_all}
use Rattle.std.proofs.lemmas.Option.{same_Some, slice_get_within}
use Rattle.cell_base.specs.declared.steps.Step.{Step}
use Rattle.cell_machine.specs.declared.effect.Effect.{Effect}
use Rattle.cell_machine.specs.Effects.{effect_in}
use Rattle.cell_machine.specs.Run.{Ran}
use Rattle.lost_values.specs.declared.loss.LossKind.{LossKind}
use Rattle.lost_values.specs.Losses.{IsReplaced, IsUnread, Passes, counts, reads, sets, sets_counted, up_to, with_step}
use Rattle.lost_values.specs.Touches.{Leaves}
use Rattle.lost_values.proofs.Lists.{get-front, get-last}
use Rattle.lost_values.proofs.Sames.{and-left}

-- a step that sets a counted value sets the value
pub weaker : (m : Ran) (x : LossKind) (k : ℕ) → Passes m (sets_counted m.setup x) k → Passes m (sets x) k
weaker m x k p = record { step = p.step; effect = p.effect; at = p.at; told = p.told; is = and-left (sets x p.step p.effect) (counts m.setup x p.effect) p.is }

-- one value is unread at most
pub unread-one : (m : Ran) (x : LossKind) (i j : ℕ) → IsUnread m x i → IsUnread m x j → i ≡ j
unread-one m x i j u v = by (cases_lt i j) (cases_lt j i)
  where
    by : (i < j) ⊎ (j ≤ i) → (j < i) ⊎ (i ≤ j) → i ≡ j
    by (inl less) other = absurd (u.kept j less (weaker m x j v.lost))
    by (inr not_less) (inl more) = absurd (v.kept i more (weaker m x i u.lost))
    by (inr not_less) (inr not_more) = omega (arith, not_less, not_more)

module _ (m : Ran) (s : Step) where
  abbrev n : Ran
  n = with_step m s

  abbrev last : ℕ
  last = length m.steps

  left : (k : ℕ) → k ≤ last → up_to n k ≡ up_to m k
  left k low = ap (λ (xs : List Step). let r : Ran = record m { steps = xs } in r) (take-append-le k m.steps (s ∷ []) low)

  all : up_to n last ≡ m
  all = left last (omega arith) ∙ ap (λ (xs : List Step). let r : Ran = record m { steps = xs } in r) (take_all last m.steps (omega arith))

  passes-on : (t : Step → Effect → Bool) (k : ℕ) → Passes m t k → Passes n t k
  passes-on t k p =
      let low : k < last = slice_get_within m.steps k p.step p.at in
      record {
        step = p.step;
        effect = p.effect;
        at = get-front m.steps (s ∷ []) k low ∙ p.at;
        told = ap (λ (r : Ran). effect_in r p.step) (left k (omega (arith, low))) ∙ p.told;
        is = p.is;
      }

  passes-back : (t : Step → Effect → Bool) (k : ℕ) → k < last → Passes n t k → Passes m t k
  passes-back t k low p = record {
    step = p.step;
    effect = p.effect;
    at = sym (get-front m.steps (s ∷ []) k low) ∙ p.at;
    told = ap (λ (r : Ran). effect_in r p.step) (sym (left k (omega (arith, low)))) ∙ p.told;
    is = p.is;
  }

  passes-inside : (t : Step → Effect → Bool) (k : ℕ) → Passes n t k → (k < last) ⊎ (k ≡ last)
  passes-inside t k p = by (cases_lt k last)
    where
      by : (k < last) ⊎ (last ≤ k) → (k < last) ⊎ (k ≡ last)
      by (inl low) = inl low
      by (inr high) =
          let within = slice_get_within n.steps k p.step p.at in
          let long : length n.steps ≡ last + 1 = length_push m.steps s in
          inr (omega (arith, within, long, high))

  pub unread-inside : (x : LossKind) (i : ℕ) → IsUnread n x i → (i < last) ⊎ (i ≡ last)
  unread-inside x i u = passes-inside (sets_counted m.setup x) i u.lost

  pub replaced-inside : (x : LossKind) (i j : ℕ) → IsReplaced n x i j → (j < last) ⊎ (j ≡ last)
  replaced-inside x i j r = passes-inside (sets x) j r.by

  pub unread-back : (x : LossKind) (i : ℕ) → i < last → IsUnread n x i → IsUnread m x i
  unread-back x i low u = record {
    lost = passes-back (sets_counted m.setup x) i low u.lost;
    kept = λ k after p. u.kept k after (passes-on (sets x) k p);
    unread = λ k after p. u.unread k after (passes-on (reads x) k p);
  }

  pub replaced-on : (x : LossKind) (i j : ℕ) → IsReplaced m x i j → IsReplaced n x i j
  replaced-on x i j r =
      let low : j < last = slice_get_within m.steps j r.by.step r.by.at in
      record {
        lost = passes-on (sets_counted m.setup x) i r.lost;
        by = passes-on (sets x) j r.by;
        before = r.before;
        kept = λ k after below p. r.kept k after below (passes-back (sets x) k (omega (arith, below, low)) p);
        unread = λ k after below p. r.unread k after below (passes-back (reads x) k (omega (arith, below, low)) p);
      }

  pub replaced-back : (x : LossKind) (i j : ℕ) → j < last → IsReplaced n x i j → IsReplaced m x i j
  replaced-back x i j low r =
      let before = r.before in
      record {
        lost = passes-back (sets_counted m.setup x) i (omega (arith, before, low)) r.lost;
        by = passes-back (sets x) j low r.by;
        before = before;
        kept = λ k after below p. r.kept k after below (passes-on (sets x) k p);
        unread = λ k after below p. r.unread k after below (passes-on (reads x) k p);
      }

  pub replaced-unread : (x : LossKind) (i : ℕ) → IsReplaced n x i last → IsUnread m x i
  replaced-unread x i r = record {
    lost = passes-back (sets_counted m.setup x) i r.before r.lost;
    kept = λ k after p. r.kept k after (slice_get_within m.steps k p.step p.at) (passes-on (sets x) k p);
    unread = λ k after p. (let low : k < last = slice_get_within m.steps k p.step p.at in r.unread k after (omega (arith, low)) (passes-on (reads x) k p));
  }

  module _ (e : Effect) (told : effect_in m s ≡ Some e) where
    passes-last : (t : Step → Effect → Bool) → t s e ≡ true → Passes n t last
    passes-last t is = record { step = s; effect = e; at = get-last m.steps s; told = ap (λ (r : Ran). effect_in r s) all ∙ told; is = is }

    passes-end : (t : Step → Effect → Bool) (k : ℕ) → k ≡ last → Passes n t k → t s e ≡ true
    passes-end t k end p =
        let at : slice_get n.steps last ≡ Some p.step = ap (slice_get n.steps) (sym end) ∙ p.at in
        let step_is : p.step ≡ s = same_Some p.step s (sym at ∙ get-last m.steps s) in
        let run_is : up_to n k ≡ m = ap (up_to n) end ∙ all in
        let effect_is : p.effect ≡ e = same_Some p.effect e (sym p.told ∙ ap (λ (r : Ran). effect_in r p.step) run_is ∙ ap (effect_in m) step_is ∙ told) in
        sym (ap (λ (a : Step). t a p.effect) step_is ∙ ap (t s) effect_is) ∙ p.is

    no-end : (t : Step → Effect → Bool) (k : ℕ) → t s e ≡ false → k ≡ last → Passes n t k → ⊥
    no-end t k isnt end p = true≢false (sym (passes-end t k end p) ∙ isnt)

    pub unread-on : (x : LossKind) (i : ℕ) → Leaves s e x → IsUnread m x i → IsUnread n x i
    unread-on x i leaves u = record {
      lost = passes-on (sets_counted m.setup x) i u.lost;
      kept = λ k after p. elim (passes-inside (sets x) k p) [
        | inl low ↦ u.kept k after (passes-back (sets x) k low p)
        | inr end ↦ no-end (sets x) k leaves.sets end p
      ];
      unread = λ k after p. elim (passes-inside (reads x) k p) [
        | inl low ↦ u.unread k after (passes-back (reads x) k low p)
        | inr end ↦ no-end (reads x) k leaves.reads end p
      ];
    }

    pub unread-here : (x : LossKind) → sets_counted m.setup x s e ≡ true → IsUnread n x last
    unread-here x is = record {
      lost = passes-last (sets_counted m.setup x) is;
      kept = λ k after p. elim (passes-inside (sets x) k p) [ inl low ↦ omega (arith, after, low) | inr end ↦ omega (arith, after, end) ];
      unread = λ k after p. elim (passes-inside (reads x) k p) [ inl low ↦ omega (arith, after, low) | inr end ↦ omega (arith, after, end) ];
    }

    -- the last step leaves what was set before it and is still unread
    pub unread-leaves : (x : LossKind) (i : ℕ) → i < last → IsUnread n x i → Leaves s e x
    unread-leaves x i low u = record { sets = on (cases_Bool (sets x s e)); reads = by (cases_Bool (reads x s e)) }
      where
        on : (sets x s e ≡ true) ⊎ (sets x s e ≡ false) → sets x s e ≡ false
        on (inl is) = absurd (u.kept last low (passes-last (sets x) is))
        on (inr isnt) = isnt

        by : (reads x s e ≡ true) ⊎ (reads x s e ≡ false) → reads x s e ≡ false
        by (inl is) = absurd (u.unread last low (passes-last (reads x) is))
        by (inr isnt) = isnt

    pub unread-end : (x : LossKind) (i : ℕ) → i ≡ last → IsUnread n x i → sets_counted m.setup x s e ≡ true
    unread-end x i end u = passes-end (sets_counted m.setup x) i end u.lost

    pub replaced-here : (x : LossKind) (i : ℕ) → sets x s e ≡ true → reads x s e ≡ false → IsUnread m x i → IsReplaced n x i last
    replaced-here x i is isnt u = record {
      lost = passes-on (sets_counted m.setup x) i u.lost;
      by = passes-last (sets x) is;
      before = slice_get_within m.steps i u.lost.step u.lost.at;
      kept = λ k after below p. u.kept k after (passes-back (sets x) k below p);
      unread = λ k after below p. elim (passes-inside (reads x) k p) [
        | inl low ↦ u.unread k after (passes-back (reads x) k low p)
        | inr end ↦ no-end (reads x) k isnt end p
      ];
    }

    pub replaced-sets : (x : LossKind) (i : ℕ) → IsReplaced n x i last → sets x s e ≡ true
    replaced-sets x i r = passes-end (sets x) last refl r.by

    pub replaced-reads : (x : LossKind) (i : ℕ) → IsReplaced n x i last → reads x s e ≡ false
    replaced-reads x i r = by (cases_Bool (reads x s e))
      where
        by : (reads x s e ≡ true) ⊎ (reads x s e ≡ false) → reads x s e ≡ false
        by (inl is) = absurd (r.unread last r.before (omega arith) (passes-last (reads x) is))
        by (inr isnt) = isnt
