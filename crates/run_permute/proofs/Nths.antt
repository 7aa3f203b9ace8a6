-- There is one reordering of each number, its places are all places, and it keeps the ordered pairs.
use Rattle.std.proofs.Common.{◌≡◌, ℕ, zero, suc, ◌+◌, ◌*◌, ◌%◌, ◌<◌, ◌≤◌, List, [], ◌∷◌, ◌++◌, length, take, refl, sym, ap, ap₂, ◌∙◌, subst, arith, ◌⊎◌, inl, inr, Some}
use Rattle.std.specs.Prelude.{slice_get, IsPermutation}
use Rattle.std.specs.List.{range_with_len, remove}
use Rattle.std.proofs.lemmas.Bool.{cases_lt, cases_eq}
use Rattle.std.proofs.lemmas.List.{append-nil, length-append, length_push, take_all, take_at, take_more, take-append-le, length-take-le}
use Rattle.std.proofs.lemmas.List.Edits.{length-remove}
use Rattle.std.proofs.lemmas.List.FromFn.{length-range_with_len}
use Rattle.std.proofs.lemmas.List.Sorted.{IsPermutation-refl, IsPermutation-more, length_permutation}
use Rattle.std.proofs.lemmas.Option.{same_Some, slice_get_within, get_or_from_slice_get}
use Rattle.race_check.specs.Reorderings.{ComesBefore, KeepsOrder}
use Rattle.run_permute.specs.SettledLists.{IsIn}
use Rattle.run_permute.specs.Nth.{IsFree, AreFree, IsChosen, AreChosen, IsNthOf}
use Rattle.run_permute.proofs.Entries.{in-at, at-in, in-left, in-kept, is-in, entry}
use Rattle.run_permute.proofs.Rising.{rising-same}

-- ---- the first entries

at-take : (xs : List ℕ) (i j : ℕ) → IsIn j (take i xs) → (x : ℕ) × (x < i) × (slice_get xs x ≡ Some j)
at-take [] zero j h = absurd h
at-take [] (suc i) j h = absurd h
at-take (x ∷ xs) zero j h = absurd h
at-take (x ∷ xs) (suc i) j (inl e) = (0, omega arith, ap Some e)
at-take (x ∷ xs) (suc i) j (inr h) = let r = at-take xs i j h in (suc r.0, (let l : r.0 < i = r.1 in omega arith), r.2)

pub in-take : (xs : List ℕ) (i j : ℕ) → IsIn j (take i xs) → IsIn j xs
in-take xs i j h = let r = at-take xs i j h in in-at xs r.0 j r.2

pub one-more : (order : List ℕ) (i j : ℕ) → slice_get order i ≡ Some j → take (suc i) order ≡ take i order ++ j ∷ []
one-more order i j at =
    let low : i < length order = slice_get_within order i j at in
    let e : i + 1 ≡ suc i = omega arith in
    ap (λ k. take k order) (sym e) ∙ take_more order i 0 low ∙ ap (λ x. take i order ++ x ∷ []) (get_or_from_slice_get order i j 0 at)

-- so many numbers are in no shorter list
pub pigeons : (n : ℕ) (xs : List ℕ) → ((i : ℕ) → i < n → IsIn i xs) → n ≤ length xs
pigeons zero xs all = omega arith
pigeons (suc n) xs all =
    let r = at-in xs n (all n (omega arith)) in
    let k = r.0 in
    let less : n ≤ length (remove xs k) = pigeons n (remove xs k) (λ i low. without k i (in-kept xs k i n r.2 (all i (omega arith))) low) in
    let long : length (remove xs k) + 1 ≡ length xs = length-remove xs k r.1 in
    omega arith
  where
    without : (k i : ℕ) → IsIn i (remove xs k) ⊎ (i ≡ n) → i < n → IsIn i (remove xs k)
    without k i (inl h) low = h
    without k i (inr e) low = absurd (omega arith)

module _ (Before : ℕ → ℕ → Type 0) (n number : ℕ) where
  -- ---- one choice

  free-same : (taken a b : List ℕ) → AreFree Before n taken a → AreFree Before n taken b → a ≡ b
  free-same taken a b f g = rising-same a b f.rising g.rising (λ j h. (g.exactly j).1 ((f.exactly j).0 h)) (λ j h. (f.exactly j).1 ((g.exactly j).0 h))

  chosen-same : (taken : List ℕ) (j k : ℕ) → IsChosen Before n number taken j → IsChosen Before n number taken k → j ≡ k
  chosen-same taken j k a b =
      let same = free-same taken a.free b.free a.are b.are in
      same_Some j k (sym a.chosen ∙ ap (λ free. slice_get free ((number * (length taken + 1)) % length free)) same ∙ b.chosen)

  pub free-at : (order : List ℕ) → AreChosen Before n number order → (i j : ℕ) → slice_get order i ≡ Some j → IsFree Before n (take i order) j
  free-at order f i j h = let c = f i j h in (c.are.exactly j).0 (in-at c.free _ j c.chosen)

  -- where a step is taken, all are that are ordered before it
  pub closed : (order : List ℕ) → AreChosen Before n number order → (i j : ℕ) → i < n → Before i j → IsIn j order → IsIn i order
  closed order f i j low before h =
      let r = at-in order j h in
      in-take order r.0 i ((free-at order f r.0 j r.2).ready i low before)

  pub chosen-more : (order : List ℕ) (j : ℕ) → AreChosen Before n number order → IsChosen Before n number order j → AreChosen Before n number (order ++ j ∷ [])
  chosen-more order j f c i k at = on (cases_lt i (length order))
    where
      within : i < length (order ++ j ∷ [])
      within = slice_get_within (order ++ j ∷ []) i k at

      last : (order : List ℕ) → slice_get (order ++ j ∷ []) (length order) ≡ Some j
      last [] = refl
      last (x ∷ xs) = last xs

      front : (order : List ℕ) (i : ℕ) → i < length order → slice_get order i ≡ slice_get (order ++ j ∷ []) i
      front [] i low = absurd (omega arith)
      front (x ∷ xs) zero low = refl
      front (x ∷ xs) (suc i) low = front xs i (omega arith)

      on : (i < length order) ⊎ (length order ≤ i) → IsChosen Before n number (take i (order ++ j ∷ [])) k
      on (inl low) = subst (λ t. IsChosen Before n number t k) (sym (take-append-le i order (j ∷ []) (omega arith))) (f i k (front order i low ∙ at))
      on (inr high) =
          let long = length_push order j in
          let e : i ≡ length order = omega (arith, within, long, high) in
          let same : j ≡ k = same_Some j k (sym (last order) ∙ ap (slice_get (order ++ j ∷ [])) (sym e) ∙ at) in
          subst (IsChosen Before n number (take i (order ++ j ∷ []))) same
          (subst (λ t. IsChosen Before n number t j) (sym (take_at order (j ∷ []) i (sym e))) c)

  -- ---- there is at most one

  front-same : (a b : List ℕ) → IsNthOf Before n number a → IsNthOf Before n number b → (i : ℕ) → i ≤ n → take i a ≡ take i b
  front-same a b f g zero low = refl
  front-same a b f g (suc i) low =
      let same = front-same a b f g i (omega arith) in
      let la : length a ≡ n = f.all in
      let lb : length b ≡ n = g.all in
      let x = entry a i (omega arith) in
      let y = entry b i (omega arith) in
      let e = chosen-same (take i b) x.0 y.0 (subst (λ t. IsChosen Before n number t x.0) same (f.each i x.0 x.1)) (g.each i y.0 y.1) in
      one-more a i x.0 x.1 ∙ ap₂ (λ t z. t ++ z ∷ []) same e ∙ sym (one-more b i y.0 y.1)

  pub nth-same : (a b : List ℕ) → IsNthOf Before n number a → IsNthOf Before n number b → a ≡ b
  nth-same a b f g =
      let la : length a ≡ n = f.all in
      let lb : length b ≡ n = g.all in
      sym (take_all n a (omega arith)) ∙ front-same a b f g n (omega arith) ∙ take_all n b (omega arith)

  -- ---- its places are all places, each once

  record Parts (order : List ℕ) (k : ℕ) : Type 0 where
    rest : List ℕ
    permuted : IsPermutation (range_with_len 0 n) (take k order ++ rest)
    has : (j : ℕ) → j < n → (IsIn j (take k order) → ⊥) → IsIn j rest

  pub in-range : (a m j : ℕ) → a ≤ j → j < a + m → IsIn j (range_with_len a m)
  in-range a zero j low high = absurd (omega arith)
  in-range a (suc m) j low high = on (cases_eq a j) (λ above. in-range (a + 1) m j above (omega arith))
    where
      on : (a ≡ j) ⊎ (a ≡ j → ⊥) → (a + 1 ≤ j → IsIn j (range_with_len (a + 1) m)) → IsIn j (range_with_len a (suc m))
      on (inl e) more = inl e
      on (inr d) more = inr (more (above (cases_lt a j)))
        where
          above : (a < j) ⊎ (j ≤ a) → a + 1 ≤ j
          above (inl l) = omega arith
          above (inr l) = absurd (d (omega arith))

  parts : (order : List ℕ) → AreChosen Before n number order → (k : ℕ) → k ≤ length order → Parts order k
  parts order f zero low = record { rest = range_with_len 0 n; permuted = IsPermutation-refl (range_with_len 0 n); has = λ j within out. in-range 0 n j (omega arith) (omega arith) }
  parts order f (suc k) low =
      let p = parts order f k (omega arith) in
      let x = entry order k (omega arith) in
      let free = free-at order f k x.0 x.1 in
      let at = at-in p.rest x.0 (p.has x.0 free.within free.left) in
      record {
        rest = remove p.rest at.0;
        permuted = subst (λ t. IsPermutation (range_with_len 0 n) (t ++ remove p.rest at.0)) (sym (one-more order k x.0 x.1)) (IsPermutation-more (range_with_len 0 n) (take k order) p.rest at.0 x.0 at.1 (sym (get_or_from_slice_get p.rest at.0 x.0 x.0 at.2)) p.permuted);
        has = λ j within out. left p.rest at.0 x.0 j out x.1 (in-kept p.rest at.0 j x.0 at.2 (p.has j within (λ h. out (subst (IsIn j) (sym (one-more order k x.0 x.1)) (in-left (take k order) (x.0 ∷ []) j h)))));
      }
    where
      last : (xs : List ℕ) (y j : ℕ) → j ≡ y → IsIn j (xs ++ y ∷ [])
      last [] y j e = inl (sym e)
      last (z ∷ zs) y j e = inr (last zs y j e)

      left : (rest : List ℕ) (at y j : ℕ) → (IsIn j (take (suc k) order) → ⊥) → slice_get order k ≡ Some y → IsIn j (remove rest at) ⊎ (j ≡ y) → IsIn j (remove rest at)
      left rest at y j out is (inl h) = h
      left rest at y j out is (inr e) = absurd (out (subst (IsIn j) (sym (one-more order k y is)) (last (take k order) y j e)))

  none-left : (xs : List ℕ) → length xs ≡ 0 → xs ≡ []
  none-left [] e = refl
  none-left (x ∷ xs) e = absurd (omega arith)

  record All (order : List ℕ) : Type 0 where
    permuted : IsPermutation (range_with_len 0 n) order
    has : (j : ℕ) → j < n → IsIn j order

  whole : (order : List ℕ) → IsNthOf Before n number order → All order
  whole order f =
      let la : length order ≡ n = f.all in
      let p = parts order f.each n (omega arith) in
      let same : take n order ≡ order = take_all n order (omega arith) in
      let long : length (take n order ++ p.rest) ≡ length (range_with_len 0 n) = length_permutation (range_with_len 0 n) (take n order ++ p.rest) p.permuted in
      let range : length (range_with_len 0 n) ≡ n = length-range_with_len 0 n in
      let both : length (take n order ++ p.rest) ≡ length (take n order) + length p.rest = length-append (take n order) p.rest in
      let front : length (take n order) ≡ n = length-take-le n order (omega arith) in
      let gone : p.rest ≡ [] = none-left p.rest (omega arith) in
      record {
        permuted = subst (IsPermutation (range_with_len 0 n)) (ap₂ (λ t r. t ++ r) same gone ∙ append-nil order) p.permuted;
        has = λ j low. on p.rest gone j (λ out. p.has j low (λ h. out (subst (IsIn j) same h))) (is-in order j);
      }
    where
      on : (rest : List ℕ) → rest ≡ [] → (j : ℕ) → ((IsIn j order → ⊥) → IsIn j rest) → IsIn j order ⊎ (IsIn j order → ⊥) → IsIn j order
      on rest gone j has (inl h) = h
      on rest gone j has (inr out) = absurd (subst (IsIn j) gone (has out))

  -- it keeps the ordered pairs
  pub nth-keeps-order : (order : List ℕ) → IsNthOf Before n number order → KeepsOrder Before n order
  nth-keeps-order order f =
      let all = whole order f in
      record { each_once = all.permuted; kept = λ i j low high before. by i j low before (at-in order j (all.has j high)) }
    where
      by : (i j : ℕ) → i < n → Before i j → (k : ℕ) × (k < length order) × (slice_get order k ≡ Some j) → ComesBefore order i j
      by i j low before r =
          let x = at-take order r.0 i ((free-at order f.each r.0 j r.2).ready i low before) in
          record { here = x.0; there = r.0; before = x.1; first = x.2; second = r.2 }

  pub nth-within : (order : List ℕ) → IsNthOf Before n number order → (j : ℕ) → IsIn j order → j < n
  nth-within order f j h = let r = at-in order j h in (free-at order f.each r.0 j r.2).within

  -- ---- while steps are left, one of them is free

  record Least (order : List ℕ) (k : ℕ) : Type 0 where
    step : ℕ
    low : step < k
    out : IsIn step order → ⊥
    first : (i : ℕ) → i < step → IsIn i order

  least : (order : List ℕ) (k : ℕ) → Least order k ⊎ ((i : ℕ) → i < k → IsIn i order)
  least order zero = inr (λ i low. absurd (omega arith))
  least order (suc k) = on (least order k) (is-in order k)
    where
      more : ((i : ℕ) → i < k → IsIn i order) → IsIn k order → (i : ℕ) → (i < k) ⊎ (k ≤ i) → i < suc k → IsIn i order
      more all h i (inl l) low = all i l
      more all h i (inr l) low = let e : k ≡ i = omega arith in subst (λ j. IsIn j order) e h

      on : Least order k ⊎ ((i : ℕ) → i < k → IsIn i order) → IsIn k order ⊎ (IsIn k order → ⊥) → Least order (suc k) ⊎ ((i : ℕ) → i < suc k → IsIn i order)
      on (inl l) h = inl (record { step = l.step; low = (let b : l.step < k = l.low in omega arith); out = l.out; first = l.first })
      on (inr all) (inl h) = inr (λ i low. more all h i (cases_lt i k) low)
      on (inr all) (inr out) = inl (record { step = k; low = omega arith; out = out; first = all })

  pub some-free : (order : List ℕ) → ((i j : ℕ) → Before i j → i < j) → length order < n → (j : ℕ) × IsFree Before n order j
  some-free order up few = on (least order n)
    where
      on : Least order n ⊎ ((i : ℕ) → i < n → IsIn i order) → (j : ℕ) × IsFree Before n order j
      on (inl l) = (l.step, record { within = l.low; left = l.out; ready = λ i low before. l.first i (up i l.step before) })
      on (inr all) = let many : n ≤ length order = pigeons n order all in absurd (omega arith)
