-- The number of each slot's list, in pages of 64.
use Rattle.std.specs.Prelude.{◌≡◌, ℕ, ◌+◌, ◌-◌, ◌/◌, ◌%◌, ◌^◌, ◌<◌, ◌≤◌, ◌⊎◌, List, length, map, slice_index}
use Rattle.std.specs.List.{range_with_len}

-- the number of a slot, on the page that begins where `starts` says
abbrev pub number_at : List ℕ → List ℕ → ℕ → ℕ
number_at starts kept slot = slice_index kept (slice_index starts (slot / 64) + slot % 64)

-- the numbers of `count` slots
unfoldable pub numbers_in : ℕ → List ℕ → List ℕ → List ℕ
numbers_in count starts kept = map (number_at starts kept) (range_with_len 0 count)

-- each page is whole, the first one has no list's number, and no other one is shared
pub record ArePages (starts kept : List ℕ) : Type 0 where
  pub whole : (k : ℕ) → slice_index starts k + 64 ≤ length kept
  pub blank : (at : ℕ) → at < 64 → slice_index kept at ≡ 2 ^ 32 - 1
  pub apart : (j k : ℕ) → (j ≡ k → ⊥) → 0 < slice_index starts j → (slice_index starts j + 64 ≤ slice_index starts k) ⊎ (slice_index starts k + 64 ≤ slice_index starts j)
