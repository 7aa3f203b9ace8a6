-- Lists of numbers that rise.
use Rattle.std.proofs.Common.{◌≡◌, ℕ, zero, suc, ◌<◌, ◌≤◌, List, [], ◌∷◌, length, get_or, refl, sym, ap₂, subst, arith, ◌⊎◌, inl, inr, Some}
use Rattle.std.specs.Prelude.{slice_get}
use Rattle.std.specs.List.{insert, remove}
use Rattle.std.proofs.lemmas.Option.{none-some, same_Some, get_or_from_slice_get}
use Rattle.run_permute.specs.SettledLists.{IsIn}
use Rattle.run_permute.specs.Lists.{IsRising}
use Rattle.run_permute.proofs.Entries.{in-get, at-in, in-insert, in-remove, in-at}

pub rising-get : (xs : List ℕ) (i j : ℕ) → IsRising xs → i < j → j < length xs → get_or xs i 0 < get_or xs j 0
rising-get [] i j up low high = absurd (omega arith)
rising-get (x ∷ xs) i zero up low high = absurd (omega arith)
rising-get (x ∷ xs) zero (suc j) up low high = up.0 (get_or xs j 0) (in-get xs j (omega arith))
rising-get (x ∷ xs) (suc i) (suc j) up low high = rising-get xs i j up.1 (omega arith) (omega arith)

pub rising-sorted : (xs : List ℕ) (i j : ℕ) → IsRising xs → i ≤ j → j < length xs → get_or xs i 0 ≤ get_or xs j 0
rising-sorted [] i j up low high = absurd (omega arith)
rising-sorted (x ∷ xs) zero zero up low high = omega arith
rising-sorted (x ∷ xs) (suc i) zero up low high = absurd (omega arith)
rising-sorted (x ∷ xs) zero (suc j) up low high = let l : x < get_or xs j 0 = up.0 (get_or xs j 0) (in-get xs j (omega arith)) in omega arith
rising-sorted (x ∷ xs) (suc i) (suc j) up low high = rising-sorted xs i j up.1 (omega arith) (omega arith)

-- an entry between lower and higher ones
pub rising-insert : (xs : List ℕ) (i y : ℕ) → IsRising xs → ((k : ℕ) → k < i → k < length xs → get_or xs k 0 < y) → ((k : ℕ) → i ≤ k → k < length xs → y < get_or xs k 0) → IsRising (insert xs i y)
rising-insert xs zero y up lower higher = ((λ z h. let r = at-in xs z h in let e = get_or_from_slice_get xs r.0 z 0 r.2 in let l = higher r.0 (omega arith) r.1 in subst (λ w. y < w) e l), up)
rising-insert [] (suc i) y up lower higher = ((λ z h. absurd h), tt)
rising-insert (x ∷ xs) (suc i) y up lower higher = (
  λ z h. on z ((in-insert xs i y z).0 h),
  rising-insert xs i y up.1 (λ k low within. lower (suc k) (omega arith) (omega arith)) (λ k high within. higher (suc k) (omega arith) (omega arith)),
)
  where
    on : (z : ℕ) → IsIn z xs ⊎ (z ≡ y) → x < z
    on z (inl h) = up.0 z h
    on z (inr e) = subst (λ w. x < w) (sym e) (lower 0 (omega arith) (omega arith))

pub rising-remove : (xs : List ℕ) (i : ℕ) → IsRising xs → IsRising (remove xs i)
rising-remove [] zero up = tt
rising-remove [] (suc i) up = tt
rising-remove (x ∷ xs) zero up = up.1
rising-remove (x ∷ xs) (suc i) up = ((λ z h. up.0 z (in-remove xs i z h)), rising-remove xs i up.1)

-- what was taken out is gone
pub removed : (xs : List ℕ) (i x : ℕ) → IsRising xs → slice_get xs i ≡ Some x → IsIn x (remove xs i) → ⊥
removed [] i x up at h = none-some x at
removed (y ∷ ys) zero x up at h = let l : y < x = up.0 x h in let e : y ≡ x = same_Some y x at in omega arith
removed (y ∷ ys) (suc i) x up at (inl e) = let l : y < x = up.0 x (in-at ys i x at) in omega arith
removed (y ∷ ys) (suc i) x up at (inr h) = removed ys i x up.1 at h

-- two such lists with the same entries are one

head-same : (x y : ℕ) (xs ys : List ℕ) → IsRising (x ∷ xs) → IsRising (y ∷ ys) → IsIn x (y ∷ ys) → IsIn y (x ∷ xs) → x ≡ y
head-same x y xs ys a b (inl e) k = sym e
head-same x y xs ys a b (inr h) (inl e) = e
head-same x y xs ys a b (inr h) (inr k) = let p : y < x = b.0 x h in let q : x < y = a.0 y k in absurd (omega arith)

pub rising-same : (xs ys : List ℕ) → IsRising xs → IsRising ys → ((j : ℕ) → IsIn j xs → IsIn j ys) → ((j : ℕ) → IsIn j ys → IsIn j xs) → xs ≡ ys
rising-same [] [] a b f g = refl
rising-same [] (y ∷ ys) a b f g = absurd (g y (inl refl))
rising-same (x ∷ xs) [] a b f g = absurd (f x (inl refl))
rising-same (x ∷ xs) (y ∷ ys) a b f g =
    let head = head-same x y xs ys a b (f x (inl refl)) (g y (inl refl)) in
    ap₂ (λ z zs. z ∷ zs) head (rising-same xs ys a.1 b.1 (λ j h. on j h (f j (inr h)) head) (λ j h. or j h (g j (inr h)) head))
  where
    on : (j : ℕ) → IsIn j xs → IsIn j (y ∷ ys) → x ≡ y → IsIn j ys
    on j h (inl e) head = let p : x < j = a.0 j h in absurd (omega arith)
    on j h (inr k) head = k

    or : (j : ℕ) → IsIn j ys → IsIn j (x ∷ xs) → x ≡ y → IsIn j xs
    or j h (inl e) head = let p : y < j = b.0 j h in absurd (omega arith)
    or j h (inr k) head = k
