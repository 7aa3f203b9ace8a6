-- A processor but for its signal registers and its events.
use Rattle.std.specs.Prelude.{◌≡◌, ℕ, false, Option, slice_get}
use Rattle.std.specs.Option.{option_map}
use Rattle.cell_signals.specs.Registers.{opening_signals}
use Rattle.cell_signals.specs.Events.{opening_events}
use Rattle.cell_machine.specs.Spe.{Spe}
use Rattle.cell_machine.specs.State.{State}

-- P with registers and events as at the start
abbrev pub silent : Spe → Spe
silent P = record P { signals = opening_signals false false; events = opening_events }

-- they differ in these alone
abbrev pub IsLike : Spe → Spe → Type 0
IsLike P Q = silent P ≡ silent Q

-- processor q of the state, but for these
abbrev pub silent_at : State → ℕ → Option Spe
silent_at M q = option_map silent (slice_get M.spes q)
