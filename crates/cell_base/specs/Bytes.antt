-- Lists of bytes, and numbers as bytes, the first byte the highest.
use Rattle.std.specs.Prelude.{ℕ, ◌+◌, List, ◌++◌, take, drop, length, replicate, ◌≡◌, ◌<◌}
use Rattle.std.specs.Simd.Lanes.{Each1}
use Rattle.std.specs.Int.{bytes_high_first}
use Rattle.std.specs.Int.Digits.{number_from_digits}

-- the number that these bytes spell
unfoldable pub number : List ℕ → ℕ
number bytes = number_from_digits 256 bytes

-- the lowest n bytes of a number
unfoldable pub spelled : ℕ → ℕ → List ℕ
spelled n x = bytes_high_first n x

-- a quadword
pub record IsQuad (bytes : List ℕ) : Type 0 where
  pub long : length bytes ≡ 16
  pub small : Each1 (λ x. x < 256) bytes

-- the bytes with `part` from a place on, and no other byte changed
abbrev pub put : List ℕ → ℕ → List ℕ → List ℕ
put bytes at part = take at bytes ++ (part ++ drop (at + length part) bytes)

-- n zero bytes
unfoldable pub zeros : ℕ → List ℕ
zeros n = replicate n 0
