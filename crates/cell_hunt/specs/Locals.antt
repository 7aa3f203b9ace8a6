-- Local instructions: no other actor can see when one of them is made.
use Rattle.std.specs.Prelude.{ℕ, ◌-◌, ◌==◌, ◌&&◌, Bool, true, false, nat_le, nat_lt, is_none, if◌then◌else◌, length, Option, Some, None, slice_get}
use Rattle.std.specs.Option.{option_and_then, option_map_or}
use Rattle.cell_base.specs.declared.steps.ChannelOp.{ChannelOp}
use Rattle.cell_base.specs.declared.steps.ChannelOp.TheVariants.{Read, Count, Write}
use Rattle.cell_base.specs.declared.steps.Step.{Step}
use Rattle.cell_base.specs.declared.steps.Step.TheVariants.{Exec, Piece, Elem, Retire, Atomic, Host}
use Rattle.cell_machine.specs.declared.effect.Effect.{Effect}
use Rattle.cell_machine.specs.declared.effect.Note.{Note}
use Rattle.cell_machine.specs.declared.effect.Note.TheVariants.{Ended}
use Rattle.cell_machine.specs.Spe.{Spe}
use Rattle.cell_machine.specs.Moves.{outstanding}
use Rattle.cell_machine.specs.Exec.{asks}
use Rattle.cell_machine.specs.Effects.{effect_in}
use Rattle.cell_machine.specs.Run.{Ran, spe_of}
use Rattle.cell_hunt.specs.declared.strategy.Strategy.{Strategy}

abbrev pub is_ended : Note → Bool
is_ended Ended = true
is_ended note = false

-- the atomic slot is free
abbrev pub is_slot_free : Spe → Bool
is_slot_free P = is_none P.channels.slot

-- a command may be issued unseen by its controller if a place of the queue stays free and no tag status is requested: event 0x8 is raised when a full queue gets a free
-- place, so it would depend on the order of this step and of the queue's own
abbrev pub may_issue : Spe → Bool
may_issue P = nat_lt (length (outstanding P)) 15 && is_none P.tags.request

-- writes to the parameters of a command (channels 16 to 20), the tag mask (22) and the command itself (21)
abbrev pub is_local_write : Spe → ℕ → Bool
is_local_write P ch = if ch == 21 then may_issue P else nat_le 16 ch && nat_le ch 22

-- reads of the tag mask (12), of a tag status (24), and of an atomic status (27) while no command is in the slot
abbrev pub is_local_read : Spe → ℕ → Bool
is_local_read P ch = if ch == 27 then is_slot_free P else if ch == 24 then true else ch == 12

-- whether an operation of a channel is local
abbrev pub is_local_operation : Spe → ChannelOp → Bool
is_local_operation P (Write ch value) = is_local_write P ch
is_local_operation P (Read rt ch) = is_local_read P ch
is_local_operation P (Count rt ch) = false

-- neither loads nor stores
abbrev pub is_in_registers : Effect → Bool
is_in_registers e = e.reads.len == 0 && e.writes.len == 0

-- no command of the processor is in its slot or in its queue
abbrev pub has_no_command : Spe → Bool
has_no_command P = is_slot_free P && length (outstanding P) == 0

-- Whether the next instruction of P, which has this effect, is local: an operation of a channel as above, or an instruction without one, which loads or
-- stores only where the processor has no command. An instruction with which the processor ceases to run isn't.
abbrev pub is_local : Spe → Effect → Bool
is_local P e =
    if is_ended e.note then false
    else option_map_or (is_local_operation P) (asks P) (if is_in_registers e then true else has_no_command P)

abbrev pub is_local_at : Ran → ℕ → Bool
is_local_at m p = option_map_or (λ P. option_map_or (is_local P) (effect_in m (Exec p)) false) (spe_of m p) false

-- the next instruction of the processor that made a step, where it is allowed and local
abbrev pub local_behind : Ran → Step → Option Step
local_behind m (Exec p) = if is_local_at m p then Some (Exec p) else None
local_behind m (Piece p c e k) = None
local_behind m (Elem p c) = None
local_behind m (Retire p c) = None
local_behind m (Atomic p) = None
local_behind m Host = None

-- the processor that made the last step goes on with its next instruction, where the strategy says so and that is local
abbrev pub going_on : Ran → Strategy → Option Step
going_on m strategy =
    if strategy.local then option_and_then (local_behind m) (slice_get m.steps (length m.steps - 1)) else None
