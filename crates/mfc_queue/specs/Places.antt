-- Sixteen places, from 0 to 15.
use Rattle.std.specs.Prelude.{◌≡◌, ℕ, ◌+◌, ◌==◌, nat_lt, Bool, true, false, List, [], ◌∷◌, length}

abbrev pub one_if : Bool → ℕ
one_if true = 1
one_if false = 0

-- how often a place stands in a list
abbrev pub times : ℕ → List ℕ → ℕ
times place [] = 0
times place (x ∷ xs) = one_if (x == place) + times place xs

-- each place is taken by one command, or vacant
pub record ArePlaces (taken vacant : List ℕ) : Type 0 where
  pub each : (place : ℕ) → times place taken + times place vacant ≡ one_if (nat_lt place 16)
  pub many : length taken + length vacant ≡ 16
