-- How many bytes of two lines are equal.
use Rattle.std.proofs.Common.{◌≡◌, ℕ, zero, suc, ◌+◌, ◌<◌, ◌≤◌, List, [], ◌∷◌, length, min, drop, get_or, eqb, true, false, refl, arith}
use Rattle.hunt_texts.specs.Watches.{same_bytes}

-- one byte more is equal
pub same_more : (xs ys : List ℕ) (i : ℕ) → i < length xs → i < length ys → eqb (get_or xs i 0) (get_or ys i 0) ≡ true
    → i + same_bytes (drop i xs) (drop i ys) ≡ (i + 1) + same_bytes (drop (i + 1) xs) (drop (i + 1) ys)
unfolding same_bytes
same_more [] ys i inside other same = absurd (omega (arith, inside))
same_more (x ∷ xs) [] i inside other same = absurd (omega (arith, other))
same_more (x ∷ xs) (y ∷ ys) zero inside other same = rw same (let one : 0 + suc (same_bytes xs ys) ≡ 1 + same_bytes xs ys = omega arith in one)
same_more (x ∷ xs) (y ∷ ys) (suc i) inside other same =
    let more : suc i + 1 ≡ suc (i + 1) = omega arith in
    let rest : i + same_bytes (drop i xs) (drop i ys) ≡ (i + 1) + same_bytes (drop (i + 1) xs) (drop (i + 1) ys) = same_more xs ys i (omega (arith, inside)) (omega (arith, other)) same in
    rw more (omega (arith, rest))

no_more : (xs : List ℕ) → same_bytes xs [] ≡ 0
unfolding same_bytes
no_more [] = refl
no_more (x ∷ xs) = refl

-- the next one is not
pub same_ends : (xs ys : List ℕ) (i : ℕ) → eqb (get_or xs i 0) (get_or ys i 0) ≡ false → same_bytes (drop i xs) (drop i ys) ≡ 0
unfolding same_bytes
same_ends [] ys zero differ = refl
same_ends [] ys (suc i) differ = refl
same_ends (x ∷ xs) [] zero differ = refl
same_ends (x ∷ xs) [] (suc i) differ = no_more (drop i xs)
same_ends (x ∷ xs) (y ∷ ys) zero differ = rw differ refl
same_ends (x ∷ xs) (y ∷ ys) (suc i) differ = same_ends xs ys i differ

-- one of the lines ends
pub same_done : (xs ys : List ℕ) (i : ℕ) → min (length xs) (length ys) ≤ i → same_bytes (drop i xs) (drop i ys) ≡ 0
unfolding same_bytes
same_done [] ys zero past = refl
same_done [] ys (suc i) past = refl
same_done (x ∷ xs) [] zero past = refl
same_done (x ∷ xs) [] (suc i) past = no_more (drop i xs)
same_done (x ∷ xs) (y ∷ ys) zero past = absurd (omega (arith, past))
same_done (x ∷ xs) (y ∷ ys) (suc i) past = same_done xs ys i (omega (arith, past))
