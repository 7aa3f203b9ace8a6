-- Pages of 256 digests.
use Rattle.std.specs.Prelude.{◌≡◌, ℕ, ◌+◌, ◌*◌, ◌/◌, ◌%◌, ◌^◌, ◌<◌, ◌≤◌, List, [], length, map, slice_index, slice_index_or}
use Rattle.std.specs.List.{range_with_len}

-- the digest at an index, 0 where there is no page
abbrev pub digest_at : List (List ℕ) → ℕ → ℕ
digest_at pages n = slice_index (slice_index_or pages (n / 256) []) (n % 256)

-- the list of `count` digests that the pages represent
unfoldable pub digests_in : ℕ → List (List ℕ) → List ℕ
digests_in count pages = map (digest_at pages) (range_with_len 0 count)

-- there are no more pages than `count` digests need, and no digest after the last one is written
pub record ArePages (count : ℕ) (pages : List (List ℕ)) : Type 0 where
  pub short : count < 2 ^ 64
  pub few : 256 * length pages < count + 256
  pub beyond : (n : ℕ) → count ≤ n → digest_at pages n ≡ 0

-- ---- one page; the digests after its end are 0

-- it reads the same
abbrev pub IsSame : List ℕ → List ℕ → Type 0
IsSame old new = (k : ℕ) → slice_index new k ≡ slice_index old k

-- one digest was written
pub record IsPut (at digest : ℕ) (old new : List ℕ) : Type 0 where
  pub here : slice_index new at ≡ digest
  pub left : (k : ℕ) → (k ≡ at → ⊥) → slice_index new k ≡ slice_index old k
