-- Digits, one after the other.
use Rattle.std.proofs.Common.{◌≡◌, ℕ, zero, suc, ◌-◌, ◌/◌, ◌%◌, ◌<◌, List, [], ◌∷◌, ◌++◌, refl, append_assoc, arith}
use Rattle.std.proofs.lemmas.List.{append-nil}
use Rattle.cell_base.specs.Hex.{hex, hex_glyph}

pub hex_none : (out : List ℕ) (width n : ℕ) → width ≡ 0 → out ≡ out ++ hex width n
unfolding hex
hex_none out width n e = rw (e, append-nil) refl

pub hex_last : (out : List ℕ) (width n : ℕ) → 0 < width → (out ++ hex (width - 1) (n / 16)) ++ hex_glyph (n % 16) ∷ [] ≡ out ++ hex width n
unfolding hex
hex_last out zero n pos = absurd (omega arith)
hex_last out (suc width) n pos =
    let back : suc width - 1 ≡ width = omega arith in
    rw back (append_assoc out (hex width (n / 16)) (hex_glyph (n % 16) ∷ []))
