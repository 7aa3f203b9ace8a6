-- Which processors hold which lines, and how a call changes that.
use Rattle.std.specs.Prelude.{◌≡◌, ℕ, ◌<◌, ◌==◌, ◌&&◌, not, Bool, false, Option, None, slice_index_or}
use Rattle.std.specs.Option.{option_map_or}
use Rattle.cell_base.specs.Bits.{has_bit}
use Rattle.lock_lines.specs.Reservations.{Reservations}

-- whether it is this line
abbrev pub is_line : Option ℕ → ℕ → Bool
is_line o line = option_map_or (λ l. l == line) o false

-- whether processor p holds the line
abbrev pub is_holder : Reservations → ℕ → ℕ → Bool
is_holder x p line = has_bit x.holding p && is_line (slice_index_or x.reserved p None) line

-- the line has no holder any more, and the holders of the others are the same
abbrev pub IsLineCleared : ℕ → Reservations → Reservations → Type 0
IsLineCleared line old new = (p k : ℕ) → p < 16 → is_holder new p k ≡ (is_holder old p k && not (line == k))

-- the processor holds no line any more, and the others hold the same
abbrev pub IsSpeCleared : ℕ → Reservations → Reservations → Type 0
IsSpeCleared spe old new = (p k : ℕ) → p < 16 → is_holder new p k ≡ (is_holder old p k && not (spe == p))
