-- The reservations that a contract sees, and what is always true of them.
use Rattle.std.specs.Prelude.{◌≡◌, ◌<◌, ◌≤◌, ℕ, false, length}
use Rattle.cell_base.specs.Bits.{has_bit}
use Rattle.lock_lines.specs.Reservations.{Reservations}
use Rattle.lock_lines.specs.declared.LockLines.TheInside.{Inside}

abbrev pub reservations_of : Inside → Reservations
reservations_of x = record { spes = x.spes; lines = x.lines; holding = x.holding; reserved = x.reserved }

pub record IsSound (x : Inside) : Type 0 where
  pub few : x.spes ≤ 16
  pub places : length x.reserved ≡ 16
  -- only processors that there are hold a line
  pub others : (p : ℕ) → x.spes ≤ p → p < 16 → has_bit x.holding p ≡ false
