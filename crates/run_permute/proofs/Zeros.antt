-- The reordering of 0 is the recorded order.
use Rattle.std.proofs.Common.{◌≡◌, ℕ, zero, suc, ◌+◌, ◌*◌, ◌%◌, ◌<◌, ◌≤◌, List, [], ◌∷◌, ◌++◌, length, take, refl, sym, ap, ap₂, ◌∙◌, subst, arith, ◌⊎◌, inl, inr, Some}
use Rattle.std.specs.Prelude.{slice_get}
use Rattle.std.specs.List.{range_with_len}
use Rattle.std.proofs.lemmas.Bool.{cases_lt}
use Rattle.std.proofs.lemmas.List.{take_all}
use Rattle.std.proofs.lemmas.Nat.{mod-mul-add}
use Rattle.std.proofs.lemmas.Option.{same_Some}
use Rattle.run_permute.specs.SettledLists.{IsIn}
use Rattle.run_permute.specs.Lists.{IsRising}
use Rattle.run_permute.specs.Nth.{IsFree, IsChosen, IsNthOf}
use Rattle.run_permute.proofs.Entries.{entry}
use Rattle.run_permute.proofs.Nths.{one-more, in-range, free-at}

range-more : (a n : ℕ) → range_with_len a (suc n) ≡ range_with_len a n ++ (a + n) ∷ []
range-more a zero = let e : a ≡ a + 0 = omega arith in ap (λ k. k ∷ []) e
range-more a (suc n) = let e : a + 1 + n ≡ a + suc n = omega arith in ap (λ ks. a ∷ ks) (range-more (a + 1) n ∙ ap (λ k. range_with_len (a + 1) n ++ k ∷ []) e)

range-below : (a n j : ℕ) → IsIn j (range_with_len a n) → j < a + n
range-below a zero j h = absurd h
range-below a (suc n) j (inl e) = omega arith
range-below a (suc n) j (inr h) = let l : j < a + 1 + n = range-below (a + 1) n j h in omega arith

-- the first entry of a list that rises is no higher than another
first-least : (xs : List ℕ) (j k : ℕ) → IsRising xs → slice_get xs 0 ≡ Some j → IsIn k xs → j ≤ k
first-least [] j k up at h = absurd h
first-least (x ∷ xs) j k up at (inl e) = let f : x ≡ j = same_Some x j at in omega arith
first-least (x ∷ xs) j k up at (inr h) = let f : x ≡ j = same_Some x j at in let l : x < k = up.0 k h in omega arith

none-first : (count free : ℕ) → 0 < free → (0 * count) % free ≡ 0
none-first count free some = let e : 0 * count ≡ 0 * free + 0 = omega arith in ap (λ k. k % free) e ∙ mod-mul-add 0 free 0 some

module _ (Before : ℕ → ℕ → Type 0) (n : ℕ) (up : (i j : ℕ) → Before i j → i < j) (order : List ℕ) (f : IsNthOf Before n 0 order) where
  chosen-next : (k j : ℕ) → k < n → take k order ≡ range_with_len 0 k → IsChosen Before n 0 (take k order) j → IsFree Before n (take k order) j → j ≡ k
  chosen-next k j low same c free =
      let first : slice_get c.free 0 ≡ Some j = ap (slice_get c.free) (sym (none-first (length (take k order) + 1) (length c.free) c.some)) ∙ c.chosen in
      let least : j ≤ k = first-least c.free j k c.are.rising first ((c.are.exactly k).1 next) in
      at-least least (cases_lt j k)
    where
      next : IsFree Before n (take k order) k
      next =
          record {
            within = low;
            left = λ h. (let l : k < 0 + k = range-below 0 k k (subst (IsIn k) same h) in absurd (omega arith));
            ready = λ i below before. (let l : i < k = up i k before in subst (IsIn i) (sym same) (in-range Before n 0 0 k i (omega arith) (omega arith)));
          }

      at-least : j ≤ k → (j < k) ⊎ (k ≤ j) → j ≡ k
      at-least l (inl below) = absurd (free.left (subst (IsIn j) (sym same) (in-range Before n 0 0 k j (omega arith) (omega arith))))
      at-least l (inr above) = omega arith

  front : (k : ℕ) → k ≤ n → take k order ≡ range_with_len 0 k
  front zero low = refl
  front (suc k) low =
      let same = front k (omega arith) in
      let all : length order ≡ n = f.all in
      let x = entry order k (omega arith) in
      let e = chosen-next k x.0 (omega arith) same (f.each k x.0 x.1) (free-at Before n 0 order f.each k x.0 x.1) in
      let here : k ≡ 0 + k = omega arith in
      one-more order k x.0 x.1 ∙ ap₂ (λ t j. t ++ j ∷ []) same (e ∙ here) ∙ sym (range-more 0 k)

  pub nth-zero : order ≡ range_with_len 0 n
  nth-zero = let all : length order ≡ n = f.all in sym (take_all n order (omega arith)) ∙ front n (omega arith)
