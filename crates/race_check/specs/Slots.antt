-- Where the lists of a shadow are told.
use Rattle.std.specs.Prelude.{ℕ, ◌+◌, ◌-◌, ◌*◌, ◌%◌}
use Rattle.cell_machine.specs.declared.effect.Place.{Place}
use Rattle.cell_machine.specs.declared.effect.Place.TheVariants.{Memory, Local}

-- which of n slots says the list of a line of a place
abbrev pub slot_of : ℕ → Place → ℕ → ℕ
slot_of n Memory line = n - 1 - line % n
slot_of n (Local q) line = (2048 * q + line) % n
