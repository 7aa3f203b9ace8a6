-- The next digest that isn't 0.
use Rattle.std.specs.Prelude.{◌≡◌, ℕ, ◌<◌, ◌≤◌, List, Option, Some, None, slice_index}

-- n is the least index from `begin` on whose digest isn't 0
pub record IsNext (digests : List ℕ) (begin n : ℕ) : Type 0 where
  pub from : begin ≤ n
  pub written : slice_index digests n ≡ 0 → ⊥
  pub least : (k : ℕ) → begin ≤ k → k < n → slice_index digests k ≡ 0

-- that index, or None if all digests from `from` on are 0
abbrev pub TellsNext : List ℕ → ℕ → Option ℕ → Type 0
TellsNext digests from None = (k : ℕ) → from ≤ k → slice_index digests k ≡ 0
TellsNext digests from (Some n) = IsNext digests from n
