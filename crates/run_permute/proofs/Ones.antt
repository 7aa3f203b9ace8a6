-- Entries of a list that are so.
use Rattle.std.proofs.Common.{◌≡◌, ℕ, zero, suc, ◌+◌, ◌<◌, ◌≤◌, List, [], ◌∷◌, ◌++◌, length, refl, subst, arith, ◌⊎◌, inl, inr}
use Rattle.std.specs.Prelude.{slice_index_or, slice_set}
use Rattle.std.proofs.lemmas.Bool.{cases_lt}
use Rattle.run_permute.specs.SettledLists.{Each, AreChanged}
use Rattle.run_permute.specs.Lists.{One}

pub one-left : {X : Type 0} (P : X → Type 0) (xs : List X) (y : X) → One P xs → One P (xs ++ y ∷ [])
one-left P [] y h = absurd h
one-left P (x ∷ xs) y (inl p) = inl p
one-left P (x ∷ xs) y (inr h) = inr (one-left P xs y h)

pub one-last : {X : Type 0} (P : X → Type 0) (xs : List X) (y : X) → P y → One P (xs ++ y ∷ [])
one-last P [] y p = inl p
one-last P (x ∷ xs) y p = inr (one-last P xs y p)

pub one-kept : {X : Type 0} (P : X → Type 0) (xs : List X) (k : ℕ) (n : X) → k < length xs → (P (slice_index_or xs k n) → P n) → One P xs → One P (slice_set xs k n)
one-kept P [] k n low kept h = absurd h
one-kept P (x ∷ xs) zero n low kept (inl p) = inl (kept p)
one-kept P (x ∷ xs) zero n low kept (inr h) = inr h
one-kept P (x ∷ xs) (suc k) n low kept (inl p) = inl p
one-kept P (x ∷ xs) (suc k) n low kept (inr h) = inr (one-kept P xs k n (omega arith) kept h)

pub one-new : {X : Type 0} (P : X → Type 0) (xs : List X) (k : ℕ) (n : X) → k < length xs → P n → One P (slice_set xs k n)
one-new P [] k n low p = absurd (omega arith)
one-new P (x ∷ xs) zero n low p = inl p
one-new P (x ∷ xs) (suc k) n low p = inr (one-new P xs k n (omega arith) p)

-- the entry with what is so of each
pub one-in : {X : Type 0} (P Q R : X → Type 0) (xs : List X) → Each P xs → Each Q xs → One R xs → (x : X) × P x × Q x × R x
one-in P Q R [] p q h = absurd h
one-in P Q R (x ∷ xs) p q (inl r) = (x, p.0, q.0, r)
one-in P Q R (x ∷ xs) p q (inr h) = one-in P Q R xs p.1 q.1 h

-- ---- changed entries

pub one-changed : {X : Type 0} (R : X → X → Type 0) (P : X → Type 0) (n : ℕ) (xs ys : List X) → length xs ≤ n → AreChanged R n xs ys → ((x y : X) → R x y → P x → P y) → One P xs → One P ys
one-changed R P n [] ys long h go one = absurd one
one-changed R P zero (x ∷ xs) ys long h go one = absurd (omega arith)
one-changed R P (suc n) (x ∷ xs) [] long h go one = absurd h
one-changed R P (suc n) (x ∷ xs) (y ∷ ys) long h go (inl p) = inl (go x y h.0 p)
one-changed R P (suc n) (x ∷ xs) (y ∷ ys) long h go (inr one) = inr (one-changed R P n xs ys (omega arith) h.1 go one)

pub changed-same : {X : Type 0} (R : X → X → Type 0) (n : ℕ) (xs : List X) → ((x : X) → R x x) → AreChanged R n xs xs
changed-same R zero xs same = refl
changed-same R (suc n) [] same = refl
changed-same R (suc n) (x ∷ xs) same = (same x, changed-same R n xs same)

-- ---- each entry

pub each-two : {X : Type 0} (P Q R : X → Type 0) (xs : List X) → ((x : X) → P x → Q x → R x) → Each P xs → Each Q xs → Each R xs
each-two P Q R [] f p q = tt
each-two P Q R (x ∷ xs) f p q = (f x p.0 q.0, each-two P Q R xs f p.1 q.1)

-- of the first ones, one by one
pub each-next : {X : Type 0} (P Q : X → Type 0) (xs : List X) (index : ℕ) → ((x : X) → P x → Q x) → ((k : ℕ) (d : X) → k < index → P (slice_index_or xs k d)) → ((d : X) → Q (slice_index_or xs index d)) → (k : ℕ) (d : X) → k < index + 1 → Q (slice_index_or xs k d)
each-next {X} P Q xs index go before one k d high = on (cases_lt k index)
  where
    on : (k < index) ⊎ (index ≤ k) → Q (slice_index_or xs k d)
    on (inl l) = go (slice_index_or xs k d) (before k d l)
    on (inr l) = let e : index ≡ k = omega arith in subst (λ i. Q (slice_index_or xs i d)) e (one d)
