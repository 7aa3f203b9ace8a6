-- The values that go to signal registers.
use Rattle.std.specs.Prelude.{ℕ, List, Option, Some, None, slice_get, slice_set}
use Rattle.std.specs.Option.{option_map_or}
use Rattle.cell_signals.specs.Registers.{delivered}
use Rattle.cell_machine.specs.declared.signals.Delivery.{Delivery}
use Rattle.cell_machine.specs.Spe.{Spe}

-- P with a value delivered to its register r
abbrev pub with_signal : Spe → ℕ → ℕ → Spe
with_signal P r value = record P { signals = delivered P.signals r value }

-- the processors after a value was delivered; a register of a processor that isn't there takes nothing
abbrev pub delivered_in : List Spe → Delivery → List Spe
delivered_in spes d = option_map_or (λ P. slice_set spes d.spe (with_signal P d.register d.value)) (slice_get spes d.spe) spes

-- and after the one that was sent, if there is one
abbrev pub sent_in : List Spe → Option Delivery → List Spe
sent_in spes None = spes
sent_in spes (Some d) = delivered_in spes d
