-- Sets of numbers, as bits.
use Rattle.std.specs.Prelude.{ℕ, ◌/◌, ◌%◌, ◌^◌, Bool, List, fold, bit_or, slice_index_or}
use Rattle.cell_base.specs.Bits.{has_bit}

-- whether k is in a set of words of 64 bits, the first of which has 0 to 63
unfoldable pub has_part : List ℕ → ℕ → Bool
has_part words k = has_bit (slice_index_or words (k / 64) 0) (k % 64)

-- the set of these numbers, as bits
abbrev pub set_of : List ℕ → ℕ
set_of ks = fold (λ bits k. bit_or bits (2 ^ k)) 0 ks
