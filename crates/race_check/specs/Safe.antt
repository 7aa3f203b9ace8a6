-- Steps that are safe from the last one that was made, and the latest that is not.
use Rattle.std.specs.Prelude.{◌≡◌, ℕ, ◌≤◌, ◌⊎◌, List, Option, Some, None, IfSome, Contains}

-- the two are one step, or the first is before the second
abbrev pub IsSafe : (ℕ → ℕ → Type 0) → ℕ → ℕ → Type 0
IsSafe Before i j = (i ≡ j) ⊎ Before i j

-- it is neither
abbrev pub IsUnsafe : (ℕ → ℕ → Type 0) → ℕ → ℕ → Type 0
IsUnsafe Before i j = i ≤ j → IsSafe Before i j → ⊥

-- the step is at most this one, if there is one
abbrev pub UpTo : Option ℕ → ℕ → Type 0
UpTo None s = ⊥
UpTo (Some i) s = s ≤ i

-- of two steps that there may be the later one
pub record IsLater (a b later : Option ℕ) : Type 0 where
  pub one : (later ≡ a) ⊎ (later ≡ b)
  pub first : (s : ℕ) → UpTo a s → UpTo later s
  pub second : (s : ℕ) → UpTo b s → UpTo later s

-- ---- steps, and the last step that was made

-- it is one of the steps, and neither the last one nor before it
pub record IsUnsafeOne (Before : ℕ → ℕ → Type 0) (last : ℕ) (IsOne : ℕ → Type 0) (step : ℕ) : Type 0 where
  pub is : IsOne step
  pub unsafe : IsUnsafe Before step last

-- this is the latest such step, None where there is none
pub record StepsTell (Before : ℕ → ℕ → Type 0) (last : ℕ) (IsOne : ℕ → Type 0) (latest : Option ℕ) : Type 0 where
  pub clash : IfSome latest (IsUnsafeOne Before last IsOne)
  pub rest : (s : ℕ) → IsOne s → IsSafe Before s last ⊎ UpTo latest s

-- of the first steps only those are lost that are safe, and nothing is added
pub record IsThinned (Before : ℕ → ℕ → Type 0) (last : ℕ) (old new : List ℕ) : Type 0 where
  pub left : (s : ℕ) → Contains old s → Contains new s ⊎ IsSafe Before s last
  pub rest : (s : ℕ) → Contains new s → Contains old s
