-- The events that a step raises at a processor, as bits (CBEA, "SPU event facility").
use Rattle.std.specs.Prelude.{ℕ, Bool, false, not, ◌&&◌, ◌==◌, bit_or, if◌then◌else◌, List, [], ◌∷◌, length, fold, Option, slice_get}
use Rattle.std.specs.Option.{option_map_or, option_map}
use Rattle.cell_base.specs.declared.steps.Step.{Step}
use Rattle.cell_base.specs.declared.steps.Step.TheVariants.{Exec, Piece, Elem, Retire, Atomic, Host}
use Rattle.cell_signals.specs.Registers.{register_of}
use Rattle.cell_signals.specs.Events.{raised as raised_events}
use Rattle.lock_lines.specs.Versions.{is_current}
use Rattle.cell_machine.specs.Spe.{Spe}
use Rattle.cell_machine.specs.Memory.{MainMemory}
use Rattle.cell_machine.specs.State.{State}
use Rattle.cell_machine.specs.Moves.{outstanding}
use Rattle.cell_machine.specs.Tags.{fixes}

-- ---- what may be so of a processor at some time

-- a processor at some time, and the memory at that time
pub record Sight : Type 0 where
  pub spe : Spe
  pub memory : MainMemory

-- it holds the line that it reserved last
abbrev pub holds_line : Sight → Bool
holds_line x = option_map_or (λ r. is_current x.memory.versions r.line r) x.spe.reserved false

abbrev pub has_signal : ℕ → Sight → Bool
has_signal r x = (register_of x.spe.signals r).ready

-- the mailboxes to the outside have one place each
abbrev pub is_outbound_full : Sight → Bool
is_outbound_full x = length x.spe.outbound == 1

abbrev pub is_interrupt_full : Sight → Bool
is_interrupt_full x = length x.spe.interrupt == 1

abbrev pub has_inbound : Sight → Bool
has_inbound x = not (length x.spe.inbound == 0)

abbrev pub is_queue_full : Sight → Bool
is_queue_full x = length (outstanding x.spe) == 16

abbrev pub has_stall : Sight → Bool
has_stall x = not (x.spe.channels.stalls == 0)

-- ---- what becomes so, or ceases to be so

abbrev pub begins : (Sight → Bool) → Sight → Sight → Bool
begins f was now = not (f was) && f now

abbrev pub ceases : (Sight → Bool) → Sight → Sight → Bool
ceases f was now = f was && not (f now)

-- ---- the events

-- a bit, and whether its event is raised
pub record Event : Type 0 where
  pub bit : ℕ
  pub raised : Bool

abbrev pub event : ℕ → Bool → Event
event bit raised = record { bit = bit; raised = raised }

-- by the processor before a step and after it, and whether the step is its own atomic command
abbrev pub events : Sight → Sight → Bool → List Event
events was now own =
    event 0x400 (ceases holds_line was now && not own)  -- its reservation is lost, and not by its own atomic command
    ∷ event 0x200 (begins (has_signal 1) was now)
    ∷ event 0x100 (begins (has_signal 2) was now)
    ∷ event 0x80 (ceases is_outbound_full was now)
    ∷ event 0x40 (ceases is_interrupt_full was now)
    ∷ event 0x10 (begins has_inbound was now)
    ∷ event 0x8 (ceases is_queue_full was now)
    ∷ event 0x2 (begins has_stall was now)
    ∷ event 0x1 (fixes now.spe)  -- a tag status is fixed at the end of the step
    ∷ []

abbrev pub with_event : ℕ → Event → ℕ
with_event bits e = if e.raised then bit_or bits e.bit else bits

unfoldable pub bits_of : List Event → ℕ
bits_of es = fold with_event 0 es

-- ---- on states

abbrev pub is_atomic_of : ℕ → Step → Bool
is_atomic_of p (Atomic q) = q == p
is_atomic_of p (Exec q) = false
is_atomic_of p (Piece q c e k) = false
is_atomic_of p (Elem q c) = false
is_atomic_of p (Retire q c) = false
is_atomic_of p Host = false

-- P with these events pending beside those that are
abbrev pub with_raised : Spe → ℕ → Spe
with_raised P bits = record P { events = raised_events P.events bits }

abbrev pub sight : State → ℕ → Option Sight
sight M p = option_map (λ P. record { spe = P; memory = M.memory }) (slice_get M.spes p)

-- the events that the step s raises at processor p, where it leaves N of M, but for what each step does at its end
unfoldable pub raised_at : State → Step → State → ℕ → ℕ
raised_at M s N p =
    option_map_or (λ was. option_map_or (λ now. bits_of (events was now (is_atomic_of p s))) (sight N p) 0) (sight M p) 0
