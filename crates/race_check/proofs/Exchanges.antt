-- Every order that keeps the ordered pairs is reached from the recorded one by exchanges of two neighbours that are not ordered.
use Rattle.std.proofs.Common.{◌≡◌, ℕ, zero, suc, ◌+◌, ◌≤◌, ◌<◌, List, [], ◌∷◌, ◌++◌, get_or, refl, sym, ap, ◌∙◌, subst, arith, inl, inr, append_assoc}
use Rattle.std.specs.Prelude.{⊤, AllPairs, slice_get, Some}
use Rattle.std.specs.List.{range_with_len, AllByRecursion}
use Rattle.std.proofs.lemmas.Bool.{cases_eq}
use Rattle.std.proofs.lemmas.List.Elements.{recursion_from_All}
use Rattle.std.proofs.lemmas.Option.{slice_get-get_or}
use Rattle.race_check.specs.Reorderings.{ComesBefore, KeepsOrder}
use Rattle.race_check.proofs.Times.{times, times_none, times_here, times_there, times_more, times-append, times_permuted, within_range, once_more, range_once, one_place}

-- where i comes before j whenever Before i j, none stands before one that is to come before it
pub pairs_from_kept : (Before : ℕ → ℕ → Type 0) (n : ℕ) (order : List ℕ) → ((k : ℕ) → times k order ≡ times k (range_with_len 0 n)) → ((i j : ℕ) → i < n → j < n → Before i j → ComesBefore order i j) → AllPairs (λ i j. Before j i → ⊥) order
pairs_from_kept Before n order counts kept p q d low high b =
    let here : slice_get order p ≡ Some (get_or order p d) = slice_get-get_or order p d (omega arith) in
    let there : slice_get order q ≡ Some (get_or order q d) = slice_get-get_or order q d high in
    let i_low : get_or order p d < n = inside p (get_or order p d) here in
    let j_low : get_or order q d < n = inside q (get_or order q d) there in
    let c : ComesBefore order (get_or order q d) (get_or order p d) = kept _ _ j_low i_low b in
    let e : c.here ≡ q = single _ c.here q c.first there in
    let f : c.there ≡ p = single _ c.there p c.second here in
    omega (arith, c.before)
  where
    inside : (k x : ℕ) → slice_get order k ≡ Some x → x < n
    inside k x e = let w : (0 ≤ x) × (x < 0 + n) = within_range x 0 n (omega (arith, once_more x order k e, counts x)) in omega arith

    single : (x k m : ℕ) → slice_get order k ≡ Some x → slice_get order m ≡ Some x → k ≡ m
    single x k m = one_place x order k m (omega (arith, counts x, range_once x 0 n))

-- the first x with what stands before it and behind it
record Split (x : ℕ) (ys : List ℕ) : Type 0 where
  front : List ℕ
  rest : List ℕ
  is : ys ≡ front ++ x ∷ rest
  before : AllByRecursion (λ y. y ≡ x → ⊥) front

split : (x : ℕ) (ys : List ℕ) → 0 < times x ys → Split x ys
split x [] h = absurd (omega (arith, times_none x))
split x (y ∷ ys) h =
    elim (cases_eq y x) [
      | inl e ↦ record { front = []; rest = ys; is = ap (λ z. z ∷ ys) e; before = tt }
      | inr ne ↦
          let s : Split x ys = split x ys (omega (arith, times_there x y ys ne)) in
          record { front = y ∷ s.front; rest = s.rest; is = ap (λ zs. y ∷ zs) s.is; before = (ne, s.before) }
    ]

-- AllPairs by recursion
abbrev pub Pairs : (ℕ → ℕ → Type 0) → List ℕ → Type 0
Pairs R [] = ⊤
Pairs R (x ∷ xs) = AllByRecursion (R x) xs × Pairs R xs

pub pairs_by_recursion : (R : ℕ → ℕ → Type 0) (xs : List ℕ) → AllPairs R xs → Pairs R xs
pairs_by_recursion R [] h = tt
pairs_by_recursion R (x ∷ xs) h =
    (recursion_from_All (R x) xs (λ k d low. h 0 (suc k) d (omega arith) (omega arith)), pairs_by_recursion R xs (λ i j d low high. h (suc i) (suc j) d (omega arith) (omega arith)))

all_behind : (P : ℕ → Type 0) (front : List ℕ) (x : ℕ) (rest : List ℕ) → AllByRecursion P (front ++ x ∷ rest) → P x × AllByRecursion P (front ++ rest)
all_behind P [] x rest h = h
all_behind P (y ∷ front) x rest h = let t = all_behind P front x rest h.1 in (t.0, (h.0, t.1))

-- what holds of each pair, at x and those before it; and of the pairs without x
pairs_before : (R : ℕ → ℕ → Type 0) (front : List ℕ) (x : ℕ) (rest : List ℕ) → Pairs R (front ++ x ∷ rest) → AllByRecursion (λ y. R y x) front × Pairs R (front ++ rest)
pairs_before R [] x rest h = (tt, h.1)
pairs_before R (y ∷ front) x rest h =
    let t = all_behind (R y) front x rest h.0 in
    let u = pairs_before R front x rest h.1 in
    ((t.0, u.0), (t.1, u.1))

each_of : (P Q : ℕ → Type 0) (front : List ℕ) → AllByRecursion P front → ((y : ℕ) → 0 < times y front → P y → Q y) → AllByRecursion Q front
each_of P Q [] h f = tt
each_of P Q (y ∷ front) h f =
    (f y (omega (arith, times_here y front)) h.0, each_of P Q front h.1 (λ z low p. f z (omega (arith, times_more z y front)) p))

both_of : (P Q : ℕ → Type 0) (front : List ℕ) → AllByRecursion P front → AllByRecursion Q front → AllByRecursion (λ y. P y × Q y) front
both_of P Q [] h g = tt
both_of P Q (y ∷ front) h g = ((h.0, g.0), both_of P Q front h.1 g.1)

none_left : (ys : List ℕ) → ((k : ℕ) → times k ys ≡ times k []) → ys ≡ []
none_left [] h = refl
none_left (y ∷ ys) h = absurd (omega (arith, h y, times_none y, times_here y ys))

-- what an exchange needs: the earlier place, which is to stand later, is not ordered before the other
pub record Free (Before : ℕ → ℕ → Type 0) (n a b : ℕ) : Type 0 where
  pub low : a < b
  pub high : b < n
  pub unordered : Before a b → ⊥

module _ (Before : ℕ → ℕ → Type 0) (n : ℕ) (P : List ℕ → Type 0) (exchange : (front rest : List ℕ) (a b : ℕ) → Free Before n a b → P (front ++ a ∷ b ∷ rest) → P (front ++ b ∷ a ∷ rest)) where
  -- a goes to its spot behind the places that it may pass
  carry : (done front rest : List ℕ) (a : ℕ) → AllByRecursion (Free Before n a) front → P (done ++ a ∷ (front ++ rest)) → P (done ++ (front ++ a ∷ rest))
  carry done [] rest a free p = p
  carry done (y ∷ front) rest a free p =
      subst P (append_assoc done (y ∷ []) (front ++ a ∷ rest))
      (carry (done ++ y ∷ []) front rest a free.1
      (subst P (sym (append_assoc done (y ∷ []) (a ∷ (front ++ rest)))) (exchange done (front ++ rest) a y free.0 p)))

  reach : (a m : ℕ) (done ys : List ℕ) → a + m ≤ n → ((k : ℕ) → times k ys ≡ times k (range_with_len a m)) → Pairs (λ i j. Before j i → ⊥) ys → P (done ++ range_with_len a m) → P (done ++ ys)
  reach a zero done ys fits counts kept p = subst (λ zs. P (done ++ zs)) (sym (none_left ys counts)) p
  reach a (suc m) done ys fits counts kept p =
      go (split a ys (omega (arith, counts a, times_here a (range_with_len (a + 1) m))))
      (λ zs c q. subst P (append_assoc done (a ∷ []) zs) (reach (a + 1) m (done ++ a ∷ []) zs (omega arith) c q (subst P (sym (append_assoc done (a ∷ []) (range_with_len (a + 1) m))) p)))
    where
      alone : (front rest : List ℕ) → ys ≡ front ++ a ∷ rest → AllByRecursion (λ y. (y ≡ a → ⊥) × (Before a y → ⊥)) front → AllByRecursion (Free Before n a) front
      alone front rest e h =
          each_of _ (Free Before n a) front h (λ y low p.
          let here : times y front ≤ times y ys = rw e (omega (arith, times-append y front (a ∷ rest))) in
          let inside : (a ≤ y) × (y < a + suc m) = within_range y a (suc m) (omega (arith, counts y)) in
          let ne : y ≡ a → ⊥ = p.0 in
          record { low = omega arith; high = omega arith; unordered = p.1 })

      others : (front rest : List ℕ) → ys ≡ front ++ a ∷ rest → (k : ℕ) → times k (front ++ rest) ≡ times k (range_with_len (a + 1) m)
      others front rest e k =
          let there : times k (front ++ a ∷ rest) ≡ times k (a ∷ range_with_len (a + 1) m) = ap (times k) (sym e) ∙ counts k in
          elim (cases_eq a k) [
            | inl q ↦ rw (← q) (omega (arith, rw (← q) at there, times-append a front (a ∷ rest), times-append a front rest, times_here a rest, times_here a (range_with_len (a + 1) m)))
            | inr ne ↦ omega (arith, there, times-append k front (a ∷ rest), times-append k front rest, times_there k a rest ne, times_there k a (range_with_len (a + 1) m) ne)
          ]

      go : Split a ys → ((zs : List ℕ) → ((k : ℕ) → times k zs ≡ times k (range_with_len (a + 1) m)) → Pairs (λ i j. Before j i → ⊥) zs → P (done ++ a ∷ zs)) → P (done ++ ys)
      go s rec =
          let pairs = pairs_before (λ i j. Before j i → ⊥) s.front a s.rest (subst (Pairs (λ i j. Before j i → ⊥)) s.is kept) in
          let free : AllByRecursion (Free Before n a) s.front = alone s.front s.rest s.is (both_of _ _ s.front s.before pairs.0) in
          subst (λ zs. P (done ++ zs)) (sym s.is) (carry done s.front s.rest a free (rec (s.front ++ s.rest) (others s.front s.rest s.is) pairs.1))

-- what holds of the recorded order, and is kept by each exchange, holds of every order that keeps the ordered pairs
pub by_exchanges : (Before : ℕ → ℕ → Type 0) (n : ℕ) (P : List ℕ → Type 0) → ((front rest : List ℕ) (a b : ℕ) → Free Before n a b → P (front ++ a ∷ b ∷ rest) → P (front ++ b ∷ a ∷ rest))
    → P (range_with_len 0 n) → (order : List ℕ) → KeepsOrder Before n order → P order
by_exchanges Before n P exchange start order keeps =
    reach Before n P exchange 0 n [] order (omega arith) counts (pairs_by_recursion _ order (pairs_from_kept Before n order counts keeps.kept)) start
  where
    counts : (k : ℕ) → times k order ≡ times k (range_with_len 0 n)
    counts k = times_permuted k (range_with_len 0 n) order keeps.each_once
