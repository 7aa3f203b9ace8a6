-- Bits of numbers.
use Rattle.std.specs.Prelude.{ℕ, ◌==◌, Bool}
use Rattle.std.specs.Int.{bit_at}

-- whether the bit of value 2^k is 1
unfoldable pub has_bit : ℕ → ℕ → Bool
has_bit bits k = bit_at bits k == 1
