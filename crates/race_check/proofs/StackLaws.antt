-- Ascending steps, of which some go or to which one comes.
use Rattle.std.proofs.Common.{◌≡◌, Bool, true, false, ℕ, ◌+◌, ◌-◌, ◌≤◌, ◌<◌, List, [], ◌∷◌, ◌++◌, length, get_or, take, drop, ◌⊎◌, inl, inr, sym, ◌∙◌, subst, arith}
use Rattle.std.specs.Prelude.{◌↔◌, Contains, Some, None, slice_index}
use Rattle.std.specs.List.{insert, remove}
use Rattle.std.specs.List.Sorted.{IsNonDecreasing, IsPermutation}
use Rattle.std.proofs.lemmas.Bool.{both_ways, cases_eq, cases_lt}
use Rattle.std.proofs.lemmas.List.{get_or_default, get_or-take, length-take-le, take-append-drop, take_more}
use Rattle.std.proofs.lemmas.List.Edits.{length-remove, get_or-remove_above, get_or-remove_below}
use Rattle.std.proofs.lemmas.List.Elements.{Contains-append_cases, Contains-append_left, Contains-append_right, Contains-get_or, Contains-push, Contains-push_cases}
use Rattle.std.proofs.lemmas.List.Sorted.{Contains-permutation, IsPermutation-insert, IsPermutation-remove, IsPermutation-sym}
use Rattle.race_check.specs.Safe.{IsSafe, IsThinned, IsUnsafe, StepsTell, UpTo}

-- what holds of the steps from a place on, and of the one in front of it
pub from_lower : (P : ℕ → Type 0) (steps : List ℕ) (end : ℕ) → P (slice_index steps (end - 1)) → ((k : ℕ) → end ≤ k → k < length steps → P (slice_index steps k)) → (k : ℕ) → end - 1 ≤ k → k < length steps → P (slice_index steps k)
from_lower P steps end here rest k low high = by (cases_eq k (end - 1))
  where
    by : (k ≡ end - 1) ⊎ (k ≡ end - 1 → ⊥) → P (slice_index steps k)
    by (inl e) = subst (λ n. P (slice_index steps n)) (sym e) here
    by (inr ne) = rest k (omega arith) high

-- what is at most y up to a place is so in front of it
pub up_to : (steps : List ℕ) (end y : ℕ) → 0 < end → end ≤ length steps → slice_index steps (end - 1) ≤ y → IsNonDecreasing steps → (k : ℕ) → k < end → slice_index steps k ≤ y
up_to steps end y some within top ascending k low = let up : slice_index steps k ≤ slice_index steps (end - 1) = ascending k (end - 1) 0 (omega arith) (omega arith) in omega (arith, top, up)

-- the one element of a list
only : (y s : ℕ) → Contains [] s ⊎ (y ≡ s) → s ≡ y
only y s (inl c) = absurd (let low : c.0 < 0 = c.1 in omega arith)
only y s (inr e) = sym e

-- a step in front of others
pub one_of : (y : ℕ) (others : List ℕ) (s : ℕ) → Contains (y ∷ others) s → Contains others s ⊎ (s ≡ y)
one_of y others s c = by (Contains-append_cases (y ∷ []) others s c)
  where
    by : Contains (y ∷ []) s ⊎ Contains others s → Contains others s ⊎ (s ≡ y)
    by (inl here) = inr (only y s (Contains-push_cases [] y s here))
    by (inr more) = inl more

pub there : (y : ℕ) (others : List ℕ) (s : ℕ) → Contains others s ⊎ (s ≡ y) → Contains (y ∷ others) s
there y others s (inl c) = Contains-append_right (y ∷ []) others s c
there y others s (inr e) = subst (Contains (y ∷ others)) (sym e) (Contains-append_left (y ∷ []) others y (Contains-push [] y))

-- a step was put among others
pub inserted : (steps : List ℕ) (at y s : ℕ) → Contains (insert steps at y) s ↔ (Contains steps s ⊎ (s ≡ y))
inserted steps at y s = (
  λ c. one_of y steps s (Contains-permutation (insert steps at y) (y ∷ steps) s (IsPermutation-sym (y ∷ steps) (insert steps at y) (IsPermutation-insert steps at y)) c),
  λ c. Contains-permutation (y ∷ steps) (insert steps at y) s (IsPermutation-insert steps at y) (there y steps s c),
)

-- the others up to a place were added, and the one there
pub added_more : (old middle new others : List ℕ) (i d : ℕ) → i < length others → ((s : ℕ) → Contains middle s ↔ (Contains old s ⊎ Contains (take i others) s)) → ((s : ℕ) → Contains new s ↔ (Contains middle s ⊎ (s ≡ get_or others i d)))
    → (s : ℕ) → Contains new s ↔ (Contains old s ⊎ Contains (take (i + 1) others) s)
added_more old middle new others i d low before more s = (λ c. to ((more s).0 c), λ c. from c)
  where
    y : ℕ
    y = get_or others i d

    all : take (i + 1) others ≡ take i others ++ y ∷ []
    all = take_more others i d low

    grown : Contains (take i others) s → Contains (take (i + 1) others) s
    grown c = subst (λ xs. Contains xs s) (sym all) (Contains-append_left (take i others) (y ∷ []) s c)

    first : Contains old s ⊎ Contains (take i others) s → Contains old s ⊎ Contains (take (i + 1) others) s
    first (inl c) = inl c
    first (inr c) = inr (grown c)

    to : Contains middle s ⊎ (s ≡ y) → Contains old s ⊎ Contains (take (i + 1) others) s
    to (inl c) = first ((before s).0 c)
    to (inr e) = inr (subst (λ xs. Contains xs s) (sym all) (subst (Contains (take i others ++ y ∷ [])) (sym e) (Contains-push (take i others) y)))

    cut : Contains (take i others) s ⊎ (y ≡ s) → Contains new s
    cut (inl c) = (more s).1 (inl ((before s).1 (inr c)))
    cut (inr e) = (more s).1 (inr (sym e))

    from : Contains old s ⊎ Contains (take (i + 1) others) s → Contains new s
    from (inl c) = (more s).1 (inl ((before s).1 (inl c)))
    from (inr c) = cut (Contains-push_cases (take i others) y s (subst (λ xs. Contains xs s) all c))

-- ascending steps without one
pub ascend-remove : (steps : List ℕ) (k : ℕ) → k < length steps → IsNonDecreasing steps → IsNonDecreasing (remove steps k)
ascend-remove steps k low ascending i j d up within = by (cases_lt i k) (cases_lt j k)
  where
    long : length (remove steps k) + 1 ≡ length steps
    long = length-remove steps k low

    by : (i < k) ⊎ (k ≤ i) → (j < k) ⊎ (k ≤ j) → get_or (remove steps k) i d ≤ get_or (remove steps k) j d
    by (inl a) (inl b) =
        let first = get_or-remove_below steps k d i a low in
        let second = get_or-remove_below steps k d j b low in
        let holds = ascending i j d up (omega arith) in
        omega (arith, first, second, holds)
    by (inl a) (inr b) =
        let first = get_or-remove_below steps k d i a low in
        let second = get_or-remove_above steps k d j b low in
        let holds = ascending i (j + 1) d (omega arith) (omega (arith, long)) in
        omega (arith, first, second, holds)
    by (inr a) (inl b) = absurd (omega arith)
    by (inr a) (inr b) =
        let first = get_or-remove_above steps k d i a low in
        let second = get_or-remove_above steps k d j b low in
        let holds = ascending (i + 1) (j + 1) d (omega arith) (omega (arith, long)) in
        omega (arith, first, second, holds)

module _ (Before : ℕ → ℕ → Type 0) (last : ℕ) where
  -- nothing was dropped
  pub thinned_none : (steps : List ℕ) → IsThinned Before last steps steps
  thinned_none steps = record { left = λ s has. inl has; rest = λ s has. has }

  -- some were dropped, and then others
  pub thinned_twice : (steps middle rest : List ℕ) → IsThinned Before last steps middle → IsThinned Before last middle rest → IsThinned Before last steps rest
  thinned_twice steps middle rest one two = record { left = λ s has. by s (one.left s has); rest = λ s has. one.rest s (two.rest s has) }
    where
      by : (s : ℕ) → Contains middle s ⊎ IsSafe Before s last → Contains rest s ⊎ IsSafe Before s last
      by s (inl has) = two.left s has
      by s (inr safe) = inr safe

  -- those from a place on were dropped, and are safe
  pub thinned_end : (steps : List ℕ) (end : ℕ) → end ≤ length steps → ((k : ℕ) → end ≤ k → k < length steps → IsSafe Before (slice_index steps k) last) → IsThinned Before last steps (take end steps)
  thinned_end steps end within safe = record { left = λ s has. left s has; rest = λ s has. subst (λ xs. Contains xs s) (take-append-drop end steps) (Contains-append_left (take end steps) (drop end steps) s has) }
    where
      left : (s : ℕ) → Contains steps s → Contains (take end steps) s ⊎ IsSafe Before s last
      left s has = at (cases_lt has.0 end)
        where
          at : (has.0 < end) ⊎ (end ≤ has.0) → Contains (take end steps) s ⊎ IsSafe Before s last
          at (inl low) = let long : length (take end steps) ≡ end = length-take-le end steps within in inl (has.0, omega (arith, long), get_or-take end steps has.0 s low ∙ has.2)
          at (inr high) = inr (subst (λ t. IsSafe Before t last) (get_or_default steps has.0 0 s has.1 ∙ has.2) (safe has.0 high has.1))

  -- one was dropped, and is safe
  pub thinned_one : (steps : List ℕ) (k : ℕ) → k < length steps → IsSafe Before (slice_index steps k) last → IsThinned Before last steps (remove steps k)
  thinned_one steps k low safe = record { left = λ s has. left s (one_of old (remove steps k) s (Contains-permutation steps (old ∷ remove steps k) s one has)); rest = λ s has. Contains-permutation (old ∷ remove steps k) steps s (IsPermutation-sym steps (old ∷ remove steps k) one) (there old (remove steps k) s (inl has)) }
    where
      old : ℕ
      old = slice_index steps k

      one : IsPermutation steps (old ∷ remove steps k)
      one = IsPermutation-remove steps k old low (sym (get_or_default steps k old 0 low))

      left : (s : ℕ) → Contains (remove steps k) s ⊎ (s ≡ old) → Contains (remove steps k) s ⊎ IsSafe Before s last
      left s (inl kept) = inl kept
      left s (inr e) = inr (subst (λ t. IsSafe Before t last) (sym e) safe)

  -- of ascending steps the last one in front of the safe ones is the latest that is not
  pub latest_end : (steps : List ℕ) (end : ℕ) → IsNonDecreasing steps → 0 < end → end ≤ length steps → IsUnsafe Before (slice_index steps (end - 1)) last → ((k : ℕ) → end ≤ k → k < length steps → IsSafe Before (slice_index steps k) last)
      → StepsTell Before last (Contains steps) (Some (slice_index steps (end - 1)))
  latest_end steps end ascending some within not_safe safe = record { clash = record { is = Contains-get_or steps (end - 1) 0 (omega arith); unsafe = not_safe }; rest = λ s has. rest s has (cases_lt has.0 end) }
    where
      rest : (s : ℕ) (has : Contains steps s) → (has.0 < end) ⊎ (end ≤ has.0) → IsSafe Before s last ⊎ UpTo (Some (slice_index steps (end - 1))) s
      rest s has (inl low) = inr (subst (λ t. t ≤ slice_index steps (end - 1)) (get_or_default steps has.0 0 s has.1 ∙ has.2) (ascending has.0 (end - 1) 0 (omega arith) (omega arith)))
      rest s has (inr high) = inl (subst (λ t. IsSafe Before t last) (get_or_default steps has.0 0 s has.1 ∙ has.2) (safe has.0 high has.1))

  -- where all are safe there is none
  pub latest_none : (steps : List ℕ) → ((k : ℕ) → k < length steps → IsSafe Before (slice_index steps k) last) → StepsTell Before last (Contains steps) None
  latest_none steps safe = record { clash = tt; rest = λ s has. inl (subst (λ t. IsSafe Before t last) (get_or_default steps has.0 0 s has.1 ∙ has.2) (safe has.0 has.1)) }

-- a step that isn't up to another is no earlier
pub not_up_to : (b : Bool) (s y : ℕ) → b ≡ false → (s ≤ y → b ≡ true) → y ≤ s
not_up_to b s y not_so is = by (cases_lt y s)
  where
    by : (y < s) ⊎ (s ≤ y) → y ≤ s
    by (inl low) = omega arith
    by (inr high) = absurd (both_ways b not_so (is high))

-- none of the others was added
pub added_none : (old : List ℕ) (s : ℕ) → Contains old s ↔ (Contains old s ⊎ Contains [] s)
added_none old s = (λ c. inl c, λ c. from c)
  where
    from : Contains old s ⊎ Contains [] s → Contains old s
    from (inl c) = c
    from (inr c) = absurd (let low : c.0 < 0 = c.1 in omega arith)
