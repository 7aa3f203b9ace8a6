-- Lists by their entries.
use Rattle.std.proofs.Common.{◌≡◌, ℕ, zero, suc, ◌+◌, ◌<◌, ◌≤◌, Bool, true, false, List, [], ◌∷◌, ◌++◌, length, map, refl, sym, ap, ap₂, ◌∙◌, subst, arith, ◌⊎◌, inl, inr}
use Rattle.std.specs.Prelude.{filter, slice_index, slice_index_or, if◌then◌else◌, take}
use Rattle.run_permute.specs.SettledLists.{Each, IsIn, AreApart, AreChanged}

pub each-on : {X : Type 0} (P Q : X → Type 0) (xs : List X) → ((x : X) → P x → Q x) → Each P xs → Each Q xs
each-on P Q [] f h = tt
each-on P Q (x ∷ xs) f h = (f x h.0, each-on P Q xs f h.1)

pub each-end : {X : Type 0} (P : X → Type 0) (xs : List X) (x : X) → Each P xs → P x → Each P (xs ++ x ∷ [])
each-end P [] x h p = (p, tt)
each-end P (y ∷ ys) x h p = (h.0, each-end P ys x h.1 p)

pub each-at : {X : Type 0} (P : X → Type 0) (xs : List X) (k : ℕ) (d : X) → Each P xs → k < length xs → P (slice_index_or xs k d)
each-at P [] k d h low = absurd (omega arith)
each-at P (x ∷ xs) zero d h low = h.0
each-at P (x ∷ xs) (suc k) d h low = each-at P xs k d h.1 (omega arith)

-- ---- numbers

pub in-end : (x y : ℕ) (ys : List ℕ) → IsIn x (ys ++ y ∷ []) → IsIn x ys ⊎ (y ≡ x)
in-end x y [] (inl h) = inr h
in-end x y [] (inr h) = absurd h
in-end x y (z ∷ zs) (inl h) = inl (inl h)
in-end x y (z ∷ zs) (inr h) = on (in-end x y zs h)
  where
    on : IsIn x zs ⊎ (y ≡ x) → IsIn x (z ∷ zs) ⊎ (y ≡ x)
    on (inl r) = inl (inr r)
    on (inr r) = inr r

pub in-front : (x y : ℕ) (ys : List ℕ) → IsIn x ys → IsIn x (ys ++ y ∷ [])
in-front x y [] h = absurd h
in-front x y (z ∷ zs) (inl h) = inl h
in-front x y (z ∷ zs) (inr h) = inr (in-front x y zs h)

pub in-last : (x : ℕ) (ys : List ℕ) → IsIn x (ys ++ x ∷ [])
in-last x [] = inl refl
in-last x (z ∷ zs) = inr (in-last x zs)

pub apart-end : (y : ℕ) (ys : List ℕ) → AreApart ys → (IsIn y ys → ⊥) → AreApart (ys ++ y ∷ [])
apart-end y [] h absent = (λ x. x, tt)
apart-end y (z ∷ zs) h absent = (λ i. on (in-end z y zs i), apart-end y zs h.1 (λ i. absent (inr i)))
  where
    on : IsIn z zs ⊎ (y ≡ z) → ⊥
    on (inl i) = h.0 i
    on (inr e) = absent (inl (sym e))

-- ---- the numbers of entries, and those that pass a test

module _ {X : Type 0} (number : X → ℕ) where
  -- one of the entries has the number, and P holds of it
  pub record Found (P : X → Type 0) (c : ℕ) : Type 0 where
    pub entry : X
    pub is : number entry ≡ c
    pub holds : P entry

  pub in-found : (P : X → Type 0) (xs : List X) (c : ℕ) → Each P xs → IsIn c (map number xs) → Found P c
  in-found P [] c h i = absurd i
  in-found P (x ∷ xs) c h (inl e) = record { entry = x; is = e; holds = h.0 }
  in-found P (x ∷ xs) c h (inr i) = in-found P xs c h.1 i

  module _ (test : X → Bool) where
    passing-each : (P : X → Type 0) (x : X) (xs : List X) (b : Bool) → test x ≡ b → P x → Each (λ y. P y × (test y ≡ true)) (filter test xs) → Each (λ y. P y × (test y ≡ true)) (if b then x ∷ filter test xs else filter test xs)
    passing-each P x xs true e p h = ((p, e), h)
    passing-each P x xs false e p h = h

    pub each-passes : (P : X → Type 0) (xs : List X) → Each P xs → Each (λ y. P y × (test y ≡ true)) (filter test xs)
    each-passes P [] h = tt
    each-passes P (x ∷ xs) h = passing-each P x xs (test x) refl h.0 (each-passes P xs h.1)

    pub in-all : (xs : List X) (c : ℕ) → IsIn c (map number (filter test xs)) → IsIn c (map number xs)
    in-all [] c i = i
    in-all (x ∷ xs) c i = on (test x) i (λ r. in-all xs c r)
      where
        on : (b : Bool) → IsIn c (map number (if b then x ∷ filter test xs else filter test xs)) → (IsIn c (map number (filter test xs)) → IsIn c (map number xs)) → IsIn c (map number (x ∷ xs))
        on true (inl e) rest = inl e
        on true (inr r) rest = inr (rest r)
        on false r rest = inr (rest r)

    pub apart-passes : (xs : List X) → AreApart (map number xs) → AreApart (map number (filter test xs))
    apart-passes [] h = tt
    apart-passes (x ∷ xs) h = on (test x) (apart-passes xs h.1)
      where
        on : (b : Bool) → AreApart (map number (filter test xs)) → AreApart (map number (if b then x ∷ filter test xs else filter test xs))
        on true rest = (λ i. h.0 (in-all xs (number x) i), rest)
        on false rest = rest

    -- an entry passes, or it is one that doesn't
    pub in-passes : (P : X → Type 0) (xs : List X) (c : ℕ) → Each P xs → IsIn c (map number xs) → IsIn c (map number (filter test xs)) ⊎ Found (λ x. P x × (test x ≡ false)) c
    in-passes P [] c h i = absurd i
    in-passes P (x ∷ xs) c h i = on (test x) refl i (λ r. in-passes P xs c h.1 r)
      where
        on : (b : Bool) → test x ≡ b → (number x ≡ c) ⊎ IsIn c (map number xs) → (IsIn c (map number xs) → IsIn c (map number (filter test xs)) ⊎ Found (λ x. P x × (test x ≡ false)) c)
            → IsIn c (map number (if b then x ∷ filter test xs else filter test xs)) ⊎ Found (λ x. P x × (test x ≡ false)) c
        on true t (inl e) rest = inl (inl e)
        on true t (inr r) rest = more (rest r)
          where
            more : IsIn c (map number (filter test xs)) ⊎ Found (λ x. P x × (test x ≡ false)) c → IsIn c (map number (x ∷ filter test xs)) ⊎ Found (λ x. P x × (test x ≡ false)) c
            more (inl i) = inl (inr i)
            more (inr f) = inr f
        on false t (inl e) rest = inr (record { entry = x; is = e; holds = (h.0, t) })
        on false t (inr r) rest = rest r

  -- where all have one number, and no two are equal, there is one
  pub alone : (P : X → Type 0) (xs : List X) (c : ℕ) → Each (λ x. P x × (number x ≡ c)) xs → AreApart (map number xs) → IsIn c (map number xs) → (x : X) × (xs ≡ x ∷ []) × P x × (number x ≡ c)
  alone P [] c h apart i = absurd i
  alone P (x ∷ []) c h apart i = (x, refl, h.0.0, h.0.1)
  alone P (x ∷ y ∷ ys) c h apart i = absurd (apart.0 (inl (h.1.0.1 ∙ sym h.0.1)))

-- ---- changed entries

module _ {X : Type 0} (R : X → X → Type 0) where
  pub changed-same : ((x : X) → R x x) → (xs : List X) → AreChanged R (length xs) xs xs
  changed-same r [] = refl
  changed-same r (x ∷ xs) = (r x, changed-same r xs)

  pub changed-each : (P Q : X → Type 0) → ((x y : X) → P x → R x y → Q y) → (xs ys : List X) → AreChanged R (length xs) xs ys → Each P xs → Each Q ys
  changed-each P Q f [] ys h p = subst (Each Q) (sym h) tt
  changed-each P Q f (x ∷ xs) [] h p = absurd h
  changed-each P Q f (x ∷ xs) (y ∷ ys) h p = (f x y p.0 h.0, changed-each P Q f xs ys h.1 p.1)

  pub changed-numbers : (number : X → ℕ) → ((x y : X) → R x y → number y ≡ number x) → (xs ys : List X) → AreChanged R (length xs) xs ys → map number ys ≡ map number xs
  changed-numbers number f [] ys h = ap (map number) h
  changed-numbers number f (x ∷ xs) [] h = absurd h
  changed-numbers number f (x ∷ xs) (y ∷ ys) h = ap₂ (λ n ns. n ∷ ns) (f x y h.0) (changed-numbers number f xs ys h.1)

pub changed-on : {X : Type 0} (R S : X → X → Type 0) → ((x y : X) → R x y → S x y) → (n : ℕ) (xs ys : List X) → AreChanged R n xs ys → AreChanged S n xs ys
changed-on R S f zero xs ys h = h
changed-on R S f (suc n) [] ys h = h
changed-on R S f (suc n) (x ∷ xs) [] h = absurd h
changed-on R S f (suc n) (x ∷ xs) (y ∷ ys) h = (f x y h.0, changed-on R S f n xs ys h.1)

-- ---- the first of some numbers

pub in-taken : (x : ℕ) (n : ℕ) (xs : List ℕ) → IsIn x (take n xs) → IsIn x xs
in-taken x zero xs h = absurd h
in-taken x (suc n) [] h = absurd h
in-taken x (suc n) (y ∷ ys) (inl e) = inl e
in-taken x (suc n) (y ∷ ys) (inr h) = inr (in-taken x n ys h)

pub in-taken_or : (x : ℕ) (n : ℕ) (xs : List ℕ) → IsIn x xs → IsIn x (take n xs) ⊎ ((k : ℕ) × (n ≤ k) × (k < length xs) × (slice_index xs k ≡ x))
in-taken_or x n [] h = absurd h
in-taken_or x zero (y ∷ ys) (inl e) = inr (0, omega arith, omega arith, e)
in-taken_or x zero (y ∷ ys) (inr h) = on (in-taken_or x zero ys h)
  where
    on : IsIn x (take zero ys) ⊎ ((k : ℕ) × (zero ≤ k) × (k < length ys) × (slice_index ys k ≡ x)) → IsIn x (take zero (y ∷ ys)) ⊎ ((k : ℕ) × (zero ≤ k) × (k < length (y ∷ ys)) × (slice_index (y ∷ ys) k ≡ x))
    on (inl h) = absurd h
    on (inr r) = inr (suc r.0, omega arith, (let l : r.0 < length ys = r.2 in omega arith), r.3)
in-taken_or x (suc n) (y ∷ ys) (inl e) = inl (inl e)
in-taken_or x (suc n) (y ∷ ys) (inr h) = on (in-taken_or x n ys h)
  where
    on : IsIn x (take n ys) ⊎ ((k : ℕ) × (n ≤ k) × (k < length ys) × (slice_index ys k ≡ x)) → IsIn x (take (suc n) (y ∷ ys)) ⊎ ((k : ℕ) × (suc n ≤ k) × (k < length (y ∷ ys)) × (slice_index (y ∷ ys) k ≡ x))
    on (inl h) = inl (inr h)
    on (inr r) = inr (suc r.0, (let l : n ≤ r.0 = r.1 in omega arith), (let l : r.0 < length ys = r.2 in omega arith), r.3)

pub in-at : (n k : ℕ) (xs : List ℕ) → k < n → k < length xs → IsIn (slice_index xs k) (take n xs)
in-at zero k xs low inside = absurd (omega arith)
in-at (suc n) k [] low inside = absurd (omega arith)
in-at (suc n) zero (x ∷ xs) low inside = inl refl
in-at (suc n) (suc k) (x ∷ xs) low inside = inr (in-at n k xs (omega arith) (omega arith))

pub in-get : (xs : List ℕ) (k : ℕ) → k < length xs → IsIn (slice_index xs k) xs
in-get [] k low = absurd (omega arith)
in-get (x ∷ xs) zero low = inl refl
in-get (x ∷ xs) (suc k) low = inr (in-get xs k (omega arith))
