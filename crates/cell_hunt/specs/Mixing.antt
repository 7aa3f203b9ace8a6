-- Numbers that look random.
use Rattle.std.specs.Prelude.{ℕ, ◌+◌, ◌*◌, ◌/◌, ◌%◌, ◌^◌, bit_xor}

-- a number with its bits mixed, as SplitMix64 does
abbrev pub folded : ℕ → ℕ → ℕ → ℕ
folded n shift factor = bit_xor n (n / 2 ^ shift) * factor % 2 ^ 64

unfoldable pub mixed : ℕ → ℕ
mixed n = let m = folded (folded n 30 0xbf58476d1ce4e5b9) 27 0x94d049bb133111eb in bit_xor m (m / 2 ^ 31)

-- the digest of a list with one number more
abbrev pub with_number : ℕ → ℕ → ℕ
with_number digest n = mixed ((bit_xor digest n + 0x9e3779b97f4a7c15) % 2 ^ 64)
