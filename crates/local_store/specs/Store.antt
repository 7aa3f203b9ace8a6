-- Addresses of the local store, which is a list of 262,144 bytes.
use Rattle.std.specs.Prelude.{ℕ, ◌+◌, ◌-◌, ◌*◌, ◌/◌, ◌%◌, ◌^◌, List, ◌++◌, length, slice_range}
use Rattle.cell_base.specs.Bytes.{number, zeros}

-- the address of the quadword that holds an address: its bits of 0x3FFF0
abbrev pub line_of : ℕ → ℕ
line_of at = at / 16 % 2 ^ 14 * 16

-- the quadword that holds an address
abbrev pub quad_at : List ℕ → ℕ → List ℕ
quad_at store at = slice_range store (line_of at) (line_of at + 16)

-- the word at an address
abbrev pub word_at : List ℕ → ℕ → ℕ
word_at store at = number (slice_range store at (at + 4))

-- a store of which these bytes are kept: those behind them are zero
unfoldable pub with_zeros : List ℕ → List ℕ
with_zeros bytes = bytes ++ zeros (262144 - length bytes)
