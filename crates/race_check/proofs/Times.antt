-- How often a number stands in a list.
use Rattle.std.proofs.Common.{◌≡◌, ℕ, zero, suc, ◌+◌, ◌≤◌, ◌<◌, cond, List, [], ◌∷◌, ◌++◌, refl, sym, subst, arith, eqb, inl, inr}
use Rattle.std.specs.Prelude.{◌⊎◌, IsPermutation, slice_get, Some, None}
use Rattle.std.specs.List.{range_with_len, sum_by}
use Rattle.std.proofs.lemmas.Bool.{eq-eqb, ne_eqb, cond-true, cond-false, cases_eq, cases_order}
use Rattle.std.proofs.lemmas.List.Sorted.{sum_by-IsPermutation}
use Rattle.std.proofs.lemmas.List.Sums.{sum_by-cons, sum_by-append}

cases_zero : (n : ℕ) → (n ≡ 0) ⊎ (0 < n)
cases_zero zero = inl refl
cases_zero (suc n) = inr (omega arith)

-- how often k stands in a list
pub times : ℕ → List ℕ → ℕ
times k xs = sum_by (λ i. cond (eqb i k) 1 0) xs

pub times_none : (k : ℕ) → times k [] ≡ 0
unfolding times
times_none k = refl

pub times_here : (k : ℕ) (xs : List ℕ) → times k (k ∷ xs) ≡ suc (times k xs)
unfolding times
times_here k xs =
    let one : ◌≡◌ {A = ℕ} (cond (eqb k k) 1 0) 1 = cond-true (eqb k k) 1 0 (eq-eqb k k refl) in
    omega (arith, sum_by-cons (λ i. cond (eqb i k) 1 0) k xs, one)

pub times_there : (k y : ℕ) (xs : List ℕ) → (y ≡ k → ⊥) → times k (y ∷ xs) ≡ times k xs
unfolding times
times_there k y xs ne =
    let none : ◌≡◌ {A = ℕ} (cond (eqb y k) 1 0) 0 = cond-false (eqb y k) 1 0 (ne_eqb y k ne) in
    omega (arith, sum_by-cons (λ i. cond (eqb i k) 1 0) y xs, none)

pub times_permuted : (k : ℕ) (xs ys : List ℕ) → IsPermutation xs ys → times k ys ≡ times k xs
unfolding times
times_permuted k xs ys h = sum_by-IsPermutation _ xs ys h

pub times_more : (k y : ℕ) (xs : List ℕ) → times k xs ≤ times k (y ∷ xs)
times_more k y xs = elim (cases_eq y k) [ inl e ↦ rw e (omega (arith, times_here k xs)) | inr ne ↦ omega (arith, times_there k y xs ne) ]

pub times-append : (k : ℕ) (xs ys : List ℕ) → times k (xs ++ ys) ≡ times k xs + times k ys
unfolding times
times-append k xs ys = sum_by-append _ xs ys

-- what stands in a range lies in it
pub within_range : (k a m : ℕ) → 0 < times k (range_with_len a m) → (a ≤ k) × (k < a + m)
within_range k a zero h = absurd (omega (arith, times_none k))
within_range k a (suc m) h =
    elim (cases_eq a k) [
      | inl e ↦ (omega arith, omega arith)
      | inr ne ↦ let later : (a + 1 ≤ k) × (k < a + 1 + m) = within_range k (a + 1) m (omega (arith, times_there k a (range_with_len (a + 1) m) ne)) in (omega arith, omega arith)
    ]

-- what stands at two places stands there twice
pub once_more : (k : ℕ) (xs : List ℕ) (p : ℕ) → slice_get xs p ≡ Some k → 1 ≤ times k xs
once_more k [] p e = absurd (nowhere e)
  where
    nowhere : None ≡ Some k → ⊥
    nowhere e = cc
once_more k (x ∷ xs) zero e = let q : x ≡ k = cc in rw q (omega (arith, times_here k xs))
once_more k (x ∷ xs) (suc p) e = omega (arith, once_more k xs p e, times_more k x xs)

pub twice : (k : ℕ) (xs : List ℕ) (p q : ℕ) → p < q → slice_get xs p ≡ Some k → slice_get xs q ≡ Some k → 2 ≤ times k xs
twice k [] p q low e f = absurd (nowhere e)
  where
    nowhere : None ≡ Some k → ⊥
    nowhere e = cc
twice k (x ∷ xs) zero zero low e f = absurd (omega arith)
twice k (x ∷ xs) zero (suc q) low e f = let r : x ≡ k = cc in rw r (omega (arith, times_here k xs, once_more k xs q f))
twice k (x ∷ xs) (suc p) zero low e f = absurd (omega arith)
twice k (x ∷ xs) (suc p) (suc q) low e f = omega (arith, twice k xs p q (omega arith) e f, times_more k x xs)

-- in a range each stands at most once
pub range_once : (k a m : ℕ) → times k (range_with_len a m) ≤ 1
range_once k a zero = omega (arith, times_none k)
range_once k a (suc m) =
    elim (cases_eq a k) [
      | inl e ↦
          let far : List ℕ = range_with_len (a + 1) m in
          let here : times k (a ∷ far) ≡ suc (times k far) = subst (λ x. times k (x ∷ far) ≡ suc (times k far)) (sym e) (times_here k far) in
          elim (cases_zero (times k far)) [
            | inl z ↦ omega (arith, here, z)
            | inr more ↦ absurd (omega (arith, within_range k (a + 1) m more, e))
          ]
      | inr ne ↦ omega (arith, times_there k a (range_with_len (a + 1) m) ne, range_once k (a + 1) m)
    ]

pub one_place : (k : ℕ) (xs : List ℕ) (p q : ℕ) → times k xs ≤ 1 → slice_get xs p ≡ Some k → slice_get xs q ≡ Some k → p ≡ q
one_place k xs p q few e f =
    elim (cases_order p q) [
      | inl same ↦ same
      | inr (inl less) ↦ absurd (omega (arith, few, twice k xs p q less e f))
      | inr (inr more) ↦ absurd (omega (arith, few, twice k xs q p more f e))
    ]
