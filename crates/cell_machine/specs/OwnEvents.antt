-- The events that a step raises at its own processor, where no store to the memory is seen.
use Rattle.std.specs.Prelude.{ℕ, if◌then◌else◌, [], false}
use Rattle.cell_machine.specs.Spe.{Spe}
use Rattle.cell_machine.specs.Tags.{settled, fixes}
use Rattle.cell_machine.specs.Raised.{Sight, is_queue_full, has_stall, begins, ceases, events, bits_of, with_raised}

-- a processor of which no memory is looked at
abbrev pub alone : Spe → Sight
alone P = record { spe = P; memory = record { bytes = []; versions = [] } }

-- Q, which a step leaves of P where no store to the memory is seen, with the events of that
unfoldable pub own_bits : Spe → Spe → ℕ
own_bits P Q = bits_of (events (alone P) (alone Q) false)

abbrev pub with_own : Spe → Spe → Spe
with_own P Q = with_raised Q (own_bits P Q)

-- Q with the event that the queue came to have a free place, and with the one that a list stalls
abbrev pub with_freed : Spe → Spe → Spe
with_freed P Q = with_raised Q (if ceases is_queue_full (alone P) (alone Q) then 0x8 else 0)

abbrev pub with_stall : Spe → Spe → Spe
with_stall P Q = with_raised Q (if begins has_stall (alone P) (alone Q) then 0x2 else 0)

-- Q settled, with the event of that
abbrev pub with_fixed : Spe → Spe
with_fixed Q = settled (with_raised Q (if fixes Q then 0x1 else 0))

-- and with all three
abbrev pub with_flow : Spe → Spe → Spe
with_flow P Q = with_fixed (with_stall P (with_freed P Q))
