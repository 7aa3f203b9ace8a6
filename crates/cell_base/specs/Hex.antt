-- Numbers and bytes printed in lower-case hexadecimal.
use Rattle.std.specs.Prelude.{ℕ, zero, suc, ◌+◌, ◌/◌, ◌%◌, nat_lt, List, [], ◌∷◌, ◌++◌, if◌then◌else◌}

-- a digit
abbrev pub hex_glyph : ℕ → ℕ
hex_glyph d = if nat_lt d 10 then 48 + d else 87 + d

-- the last digits of a number, this many
unfoldable pub hex : ℕ → ℕ → List ℕ
hex zero n = []
hex (suc width) n = hex width (n / 16) ++ hex_glyph (n % 16) ∷ []

-- the two digits of a byte
abbrev pub byte_hex : ℕ → List ℕ
byte_hex b = hex_glyph (b / 16) ∷ hex_glyph (b % 16) ∷ []
