-- Which element of a list is the k-th that passes a test.
use Rattle.std.proofs.Common.{◌≡◌, ℕ, zero, suc, ◌+◌, ◌<◌, ◌≤◌, Bool, true, false, List, [], ◌∷◌, ◌++◌, length, take, Some, ◌⊎◌, inl, inr, refl, sym, ap, ◌∙◌, arith}
use Rattle.std.specs.Prelude.{slice_get, count_by, cond}
use Rattle.std.proofs.lemmas.List.Sums.{sum_by-cons, sum_by-append}
use Rattle.std.proofs.lemmas.List.{take-take, length-take}
use Rattle.std.proofs.lemmas.Option.{slice_get_within}
use Rattle.race_order.proofs.Places.{get_take}
use Rattle.std.proofs.lemmas.Bool.{cases_order}

-- the element at place i passes the test, and k before it do
pub record IsNth {X : Type 0} (p : X → Bool) (xs : List X) (k i : ℕ) : Type 0 where
  pub element : X
  pub at : slice_get xs i ≡ Some element
  pub passes : p element ≡ true
  pub number : count_by p (take i xs) ≡ k

count_cons : {X : Type 0} (p : X → Bool) (x : X) (xs : List X) → count_by p (x ∷ xs) ≡ cond (p x) 1 0 + count_by p xs
count_cons p x xs = sum_by-cons (λ y. cond (p y) 1 0) x xs

pub count_yes : {X : Type 0} (p : X → Bool) (x : X) (xs : List X) → p x ≡ true → count_by p (x ∷ xs) ≡ suc (count_by p xs)
count_yes p x xs e = let h : cond {A = ℕ} (p x) 1 0 ≡ 1 = ap (λ (b : Bool). cond {A = ℕ} b 1 0) e in let g : count_by p (x ∷ xs) ≡ cond (p x) 1 0 + count_by p xs = count_cons p x xs in omega arith

pub count_no : {X : Type 0} (p : X → Bool) (x : X) (xs : List X) → p x ≡ false → count_by p (x ∷ xs) ≡ count_by p xs
count_no p x xs e = let h : cond {A = ℕ} (p x) 1 0 ≡ 0 = ap (λ (b : Bool). cond {A = ℕ} b 1 0) e in let g : count_by p (x ∷ xs) ≡ cond (p x) 1 0 + count_by p xs = count_cons p x xs in omega arith

-- with one more at the end
pub count_more : {X : Type 0} (p : X → Bool) (xs : List X) (x : X) → count_by p (xs ++ (x ∷ [])) ≡ count_by p xs + cond (p x) 1 0
count_more p xs x =
    let h : count_by p (xs ++ (x ∷ [])) ≡ count_by p xs + count_by p (x ∷ []) = sum_by-append (λ y. cond (p y) 1 0) xs (x ∷ []) in
    let g : count_by p (x ∷ []) ≡ cond (p x) 1 0 + count_by p [] = count_cons p x [] in
    let z : count_by p [] ≡ 0 = refl in
    omega arith

nth_in : {X : Type 0} (p : X → Bool) (x : X) (xs : List X) (k : ℕ) (b : Bool) → p x ≡ b → k < count_by p (x ∷ xs) → ((m : ℕ) → m < count_by p xs → (i : ℕ) × IsNth p xs m i) → (i : ℕ) × IsNth p (x ∷ xs) k i
nth_in p x xs zero true e low rest = (zero, record { element = x; at = refl; passes = e; number = refl })
nth_in p x xs (suc k) true e low rest =
    let c : count_by p (x ∷ xs) ≡ suc (count_by p xs) = count_yes p x xs e in
    let h : (i : ℕ) × IsNth p xs k i = rest k (omega arith) in
    (suc h.0, record { element = h.1.element; at = h.1.at; passes = h.1.passes; number = count_yes p x (take h.0 xs) e ∙ ap suc h.1.number })
nth_in p x xs k false e low rest =
    let c : count_by p (x ∷ xs) ≡ count_by p xs = count_no p x xs e in
    let h : (i : ℕ) × IsNth p xs k i = rest k (omega arith) in
    (suc h.0, record { element = h.1.element; at = h.1.at; passes = h.1.passes; number = count_no p x (take h.0 xs) e ∙ h.1.number })

pub nth_there : {X : Type 0} (p : X → Bool) (xs : List X) (k : ℕ) → k < count_by p xs → (i : ℕ) × IsNth p xs k i
nth_there p [] k low = absurd (omega arith)
nth_there p (x ∷ xs) k low = nth_in p x xs k (p x) refl low (λ m h. nth_there p xs m h)

pub counts_rise : {X : Type 0} (p : X → Bool) (xs : List X) (i j : ℕ) → i ≤ j → count_by p (take i xs) ≤ count_by p (take j xs)
counts_rise p xs zero j low = omega arith
counts_rise p [] (suc i) zero low = omega arith
counts_rise p [] (suc i) (suc j) low = omega arith
counts_rise p (x ∷ xs) (suc i) zero low = absurd (omega arith)
counts_rise p (x ∷ xs) (suc i) (suc j) low =
    let h : count_by p (take i xs) ≤ count_by p (take j xs) = counts_rise p xs i j (omega arith) in
    let a : count_by p (x ∷ take i xs) ≡ cond (p x) 1 0 + count_by p (take i xs) = count_cons p x (take i xs) in
    let b : count_by p (x ∷ take j xs) ≡ cond (p x) 1 0 + count_by p (take j xs) = count_cons p x (take j xs) in
    omega arith

pub count_here : {X : Type 0} (p : X → Bool) (xs : List X) (i j : ℕ) (x : X) → slice_get xs i ≡ Some x → p x ≡ true → i < j → count_by p (take i xs) < count_by p (take j xs)
count_here p [] i j x e t low = absurd cc
count_here p (y ∷ xs) zero zero x e t low = absurd (omega arith)
count_here p (y ∷ xs) zero (suc j) x e t low =
    let same : y ≡ x = cc in
    let z : count_by p [] ≡ 0 = refl in
    let c : count_by p (y ∷ take j xs) ≡ suc (count_by p (take j xs)) = count_yes p y (take j xs) (ap p same ∙ t) in
    omega arith
count_here p (y ∷ xs) (suc i) zero x e t low = absurd (omega arith)
count_here p (y ∷ xs) (suc i) (suc j) x e t low =
    let h : count_by p (take i xs) < count_by p (take j xs) = count_here p xs i j x e t (omega arith) in
    let a : count_by p (y ∷ take i xs) ≡ cond (p y) 1 0 + count_by p (take i xs) = count_cons p y (take i xs) in
    let b : count_by p (y ∷ take j xs) ≡ cond (p y) 1 0 + count_by p (take j xs) = count_cons p y (take j xs) in
    omega arith

-- the place is determined by the number, and the earlier number stands earlier
pub nth_one : {X : Type 0} (p : X → Bool) (xs : List X) (k i j : ℕ) → IsNth p xs k i → IsNth p xs k j → i ≡ j
nth_one p xs k i j a b = at (cases_order i j)
  where
    at : (i ≡ j) ⊎ ((i < j) ⊎ (j < i)) → i ≡ j
    at (inl e) = e
    at (inr (inl low)) = let h : count_by p (take i xs) < count_by p (take j xs) = count_here p xs i j a.element a.at a.passes low in let m : count_by p (take i xs) ≡ k = a.number in let m' : count_by p (take j xs) ≡ k = b.number in absurd (omega arith)
    at (inr (inr low)) = let h : count_by p (take j xs) < count_by p (take i xs) = count_here p xs j i b.element b.at b.passes low in let m : count_by p (take i xs) ≡ k = a.number in let m' : count_by p (take j xs) ≡ k = b.number in absurd (omega arith)

-- the front of a list has the same first ones
pub nth_before : {X : Type 0} (p : X → Bool) (xs : List X) (b k i : ℕ) → IsNth p (take b xs) k i → (i < b) × IsNth p xs k i
nth_before p xs b k i h =
    let low : i < length (take b xs) = slice_get_within (take b xs) i h.element h.at in
    let less : i < b = omega (arith, low, length-take b xs) in
    (less, record { element = h.element; at = sym (get_take xs b i less) ∙ h.at; passes = h.passes; number = ap (count_by p) (sym (take-take i b xs (omega arith))) ∙ h.number })

pub nth_front : {X : Type 0} (p : X → Bool) (xs : List X) (b k i : ℕ) → i < b → IsNth p xs k i → IsNth p (take b xs) k i
nth_front p xs b k i low h =
    record { element = h.element; at = get_take xs b i low ∙ h.at; passes = h.passes; number = ap (count_by p) (take-take i b xs (omega arith)) ∙ h.number }
