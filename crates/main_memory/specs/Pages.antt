-- Bytes in pages of 4,096, of which those that were written are kept.
use Rattle.std.specs.Prelude.{◌≡◌, ℕ, zero, suc, ◌+◌, ◌*◌, ◌/◌, ◌%◌, ◌<◌, ◌≤◌, Bool, true, false, List, length, map, slice_index}
use Rattle.std.specs.List.{range_with_len, count_by}

-- the byte at an offset in the page of a number: 0 is the number of the pages that were never written, and n + 1 that of kept page n
abbrev pub byte_in : List ℕ → ℕ → ℕ → ℕ
byte_in kept zero offset = 0
byte_in kept (suc index) offset = slice_index kept (index * 4096 + offset)

-- the byte at an address, where `numbers` has the number of each page
abbrev pub byte_at : List ℕ → List ℕ → ℕ → ℕ
byte_at numbers kept at = byte_in kept (slice_index numbers (at / 4096)) (at % 4096)

-- the first `count` bytes
unfoldable pub bytes_in : ℕ → List ℕ → List ℕ → List ℕ
bytes_in count numbers kept = map (byte_at numbers kept) (range_with_len 0 count)

-- both have the same bytes
abbrev pub AreSame : List ℕ → List ℕ → List ℕ → List ℕ → Type 0
AreSame numbers kept new_numbers new_kept = (at : ℕ) → byte_at new_numbers new_kept at ≡ byte_at numbers kept at

abbrev pub is_written : ℕ → Bool
is_written zero = false
is_written (suc index) = true

-- each page that was written is among the kept ones, at an index that no other has, and they are no more
pub record ArePages (numbers kept : List ℕ) : Type 0 where
  pub few : length numbers ≤ 16385
  pub whole : length kept ≡ 4096 * count_by is_written numbers
  pub within : (page : ℕ) → 4096 * slice_index numbers page ≤ length kept
  pub apart : (page other : ℕ) → 0 < slice_index numbers page → slice_index numbers page ≡ slice_index numbers other → page ≡ other
