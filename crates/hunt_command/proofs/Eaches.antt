-- What holds of each element of a list with its number.
use Rattle.std.proofs.Common.{◌≡◌, ℕ, ◌+◌, List, [], ◌∷◌, ◌++◌, length, subst, arith}
use Rattle.hunt_command.specs.Hunts.{Each}

pub each-append : {X : Type 0} (P : ℕ → X → Type 0) (n m : ℕ) (xs ys : List X) → m ≡ n + length xs → Each P n xs → Each P m ys → Each P n (xs ++ ys)
unfolding Each
each-append P n m [] ys e a b = subst (λ k. Each P k ys) (let same : m ≡ n = omega (arith, e) in same) b
each-append P n m (x ∷ xs) ys e a b = (a.0, each-append P (n + 1) m xs ys (omega (arith, e)) a.1 b)

pub each-one : {X : Type 0} (P : ℕ → X → Type 0) (n : ℕ) (x : X) → P n x → Each P n (x ∷ [])
unfolding Each
each-one P n x p = (p, tt)

pub each-none : {X : Type 0} (P : ℕ → X → Type 0) (n : ℕ) → Each P n []
unfolding Each
each-none P n = tt

pub each-snoc : {X : Type 0} (P : ℕ → X → Type 0) (n m : ℕ) (xs : List X) (x : X) → m ≡ n + length xs → Each P n xs → P m x → Each P n (xs ++ x ∷ [])
each-snoc P n m xs x e a p = each-append P n m xs (x ∷ []) e a (each-one P m x p)
