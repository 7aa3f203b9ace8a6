-- The marks of known bytes, 64 in a word.
use Rattle.std.specs.Prelude.{◌≡◌, ℕ, ◌/◌, ◌%◌, ◌<◌, ◌≤◌, Bool, true, false, not, ◌==◌, List, Option, Some, None, slice_index}
use Rattle.std.specs.Int.{bit_at, bit_not, w64}
use Rattle.unwritten_reads.specs.declared.range.ByteRange.{ByteRange}

abbrev pub has_bit : ℕ → ℕ → Bool
has_bit word i = bit_at word i == 1

-- whether the byte is in the set
abbrev pub is_marked : List ℕ → ℕ → Bool
is_marked marks b = has_bit (slice_index marks (b / 64)) (b % 64)

-- the bits of the bytes that are in the set, or of those that aren't
abbrev pub looked : Bool → ℕ → ℕ
looked true word = word
looked false word = bit_not w64 word

-- the first byte of the range that is in the set, or that isn't
abbrev pub IsFirst : (ℕ → Bool) → Bool → ByteRange → Option ℕ → Type 0
IsFirst marks is r None = (b : ℕ) → r.from ≤ b → b < r.end → marks b ≡ not is
IsFirst marks is r (Some first) = (r.from ≤ first) × (first < r.end) × (marks first ≡ is) × ((b : ℕ) → r.from ≤ b → b < first → marks b ≡ not is)

-- a byte of the range is in the set
abbrev pub HasMarked : List ℕ → ByteRange → Type 0
HasMarked marks r = (b : ℕ) × ((r.from ≤ b) × (b < r.end) × (is_marked marks b ≡ true))
