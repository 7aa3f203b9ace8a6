-- A run as functions of the place, and what the first places of another order have to show of it.
use Rattle.std.specs.Prelude.{◌≡◌, ℕ, zero, suc, ◌+◌, ◌<◌, ◌≤◌, ◌==◌, ◌&&◌, ◌||◌, Bool, true, false, List, [], ◌∷◌, ◌++◌, length, filter, fold, if◌then◌else◌, Option, Some, None, slice_get, slice_index_or}
use Rattle.std.specs.List.{last_or, range_with_len}
use Rattle.std.specs.Option.{option_map, option_map_or}
use Rattle.cell_base.specs.declared.steps.ChannelOp.{ChannelOp}
use Rattle.cell_base.specs.declared.steps.ChannelOp.TheVariants.{Read, Count, Write}
use Rattle.cell_base.specs.declared.steps.Step.{Step}
use Rattle.cell_base.specs.declared.steps.Step.TheVariants.{Exec, Piece, Elem, Retire, Atomic, Host}
use Rattle.mfc_command.specs.declared.command.Command.{Command}
use Rattle.mfc_command.specs.declared.command.AtomicOp.{AtomicOp}
use Rattle.mfc_command.specs.declared.command.Params.{Params}
use Rattle.mfc_command.specs.Order.{with_group}
use Rattle.tag_groups.specs.declared.Request.{Request}
use Rattle.tag_groups.specs.Settle.{opening_tags}
use Rattle.lock_lines.specs.Versions.{Reserved}
use Rattle.cell_channels.specs.State.{opening_channels}
use Rattle.cell_signals.specs.declared.signals.Signals.{Signals}
use Rattle.cell_signals.specs.Registers.{opening_signals}
use Rattle.cell_signals.specs.Events.{opening_events}
use Rattle.cell_machine.specs.declared.status.Status.{Status}
use Rattle.cell_machine.specs.declared.status.Status.TheVariants.{Running}
use Rattle.cell_machine.specs.declared.effect.Effect.{Effect}
use Rattle.cell_machine.specs.declared.effect.Note.{Note}
use Rattle.cell_machine.specs.declared.effect.Note.TheVariants.{AtomicIssue, AtomicRead, Put, Take}
use Rattle.cell_machine.specs.Spe.{Spe, Moves, ElementRead, PartDone, Stall}
use Rattle.cell_machine.specs.State.{State}
use Rattle.cell_machine.specs.Moves.{read_of, is_stalled}
use Rattle.cell_machine.specs.Exec.{asks}
use Rattle.cell_machine.specs.Next.{next}
use Rattle.cell_machine.specs.Opening.{no_moves}
use Rattle.cell_machine.specs.Effects.{effect_of}
use Rattle.cell_machine.specs.ByteRuns.{Action, action_of}
use Rattle.cell_machine.specs.Sound.{IsSound}

-- ---- the run

pub record Recorded : Type 0 where
  pub size : ℕ
  pub step : ℕ → Step
  pub effect : ℕ → Effect
  pub state : ℕ → State  -- before the step at a place

-- each step leads to the next state, with its effect, and all states are sound
pub record IsRecorded (r : Recorded) : Type 0 where
  pub made : (j : ℕ) → j < r.size → next (r.state j) (r.step j) ≡ Some (r.state (suc j))
  pub told : (j : ℕ) → j < r.size → effect_of (r.state j) (r.step j) ≡ Some (r.effect j)
  pub lines : ℕ
  pub sound : (j : ℕ) → j ≤ r.size → IsSound lines j (r.state j)

-- what stands for a processor that isn't there
unfoldable pub no_spe : Spe
no_spe = record { status = Running; pc = 0; registers = []; store = []; inbound = []; outbound = []; interrupt = []; channels = opening_channels; tags = opening_tags; signals = opening_signals false false; events = opening_events; moves = no_moves; reserved = None }

abbrev pub spe_in : State → ℕ → Spe
spe_in M p = slice_index_or M.spes p no_spe

-- processor p before place j
abbrev pub spe_before : Recorded → ℕ → ℕ → Spe
spe_before r p j = spe_in (r.state j) p

abbrev pub count_of : Recorded → ℕ
count_of r = length (r.state 0).spes

abbrev pub act_at : Recorded → ℕ → Action
act_at r j = action_of (r.state j) (r.step j) (r.effect j)

-- ---- classes of steps

abbrev pub is_exec : ℕ → Step → Bool
is_exec p (Exec q) = q == p
is_exec p (Piece q c e k) = false
is_exec p (Elem q c) = false
is_exec p (Retire q c) = false
is_exec p (Atomic q) = false
is_exec p Host = false

abbrev pub is_elem : ℕ → ℕ → Step → Bool
is_elem p c (Elem q d) = (q == p) && (d == c)
is_elem p c (Exec q) = false
is_elem p c (Piece q d e k) = false
is_elem p c (Retire q d) = false
is_elem p c (Atomic q) = false
is_elem p c Host = false

abbrev pub is_host : Step → Bool
is_host Host = true
is_host (Exec q) = false
is_host (Piece q d e k) = false
is_host (Elem q d) = false
is_host (Retire q d) = false
is_host (Atomic q) = false

-- the steps that change the atomic slot, the atomic status or the reservation of processor p
abbrev pub is_atomic_note : Note → Bool
is_atomic_note AtomicIssue = true
is_atomic_note AtomicRead = true
is_atomic_note _ = false

abbrev pub is_atomic_step : ℕ → Step → Note → Bool
is_atomic_step p (Exec q) note = (q == p) && is_atomic_note note
is_atomic_step p (Atomic q) note = q == p
is_atomic_step p (Piece q c e k) note = false
is_atomic_step p (Elem q c) note = false
is_atomic_step p (Retire q c) note = false
is_atomic_step p Host note = false

abbrev pub is_put_note : ℕ → ℕ → Note → Bool
is_put_note q m (Put spe mailbox) = (spe == q) && (mailbox == m)
is_put_note q m _ = false

abbrev pub is_take_note : ℕ → ℕ → Note → Bool
is_take_note q m (Take spe mailbox) = (spe == q) && (mailbox == m)
is_take_note q m _ = false

-- ---- what the steps add to the lists of a processor, and which line they touch

abbrev pub done_by : ℕ → Step → Option PartDone
done_by p (Piece q c e k) = if q == p then Some (record { cmd = c; elem = e; part = k }) else None
done_by p (Exec q) = None
done_by p (Elem q c) = None
done_by p (Retire q c) = None
done_by p (Atomic q) = None
done_by p Host = None

abbrev pub retired_by : ℕ → Step → Option ℕ
retired_by p (Retire q c) = if q == p then Some c else None
retired_by p (Exec q) = None
retired_by p (Piece q c e k) = None
retired_by p (Elem q c) = None
retired_by p (Atomic q) = None
retired_by p Host = None

-- the element that a step read, which is the last one of its command after it
abbrev pub element_by : ℕ → Step → Spe → Option ElementRead
element_by p (Elem q c) Q = if q == p then option_map (λ x. record { cmd = c; element = x }) (last_or None (read_of Q.moves.read c)) else None
element_by p (Exec q) Q = None
element_by p (Piece q c e k) Q = None
element_by p (Retire q c) Q = None
element_by p (Atomic q) Q = None
element_by p Host Q = None

abbrev pub element_at : Recorded → ℕ → ℕ → Option ElementRead
element_at r p j = element_by p (r.step j) (spe_before r p (suc j))

-- ---- parts of a processor

-- what a processor's instructions alone change, but for its store: with it the unanswered tag request, and whether a stall was read and not acknowledged
pub record Program : Type 0 where
  pub status : Status
  pub pc : ℕ
  pub registers : List (List ℕ)
  pub params : Params
  pub mask : ℕ
  pub issued : List Command
  pub resumed : List Stall

abbrev pub program_of : Spe → Program
program_of P = record { status = P.status; pc = P.pc; registers = P.registers; params = P.channels.params; mask = P.tags.mask; issued = P.moves.issued; resumed = P.moves.resumed }

-- the signal registers and the event mask, which no step of a settled run changes
pub record Listening : Type 0 where
  pub signals : Signals
  pub mask : ℕ

abbrev pub listening_of : Spe → Listening
listening_of P = record { signals = P.signals; mask = P.events.mask }

-- what a processor's atomic commands alone change
pub record Locking : Type 0 where
  pub slot : Option AtomicOp
  pub atomic : Option ℕ
  pub reserved : Option Reserved

abbrev pub locking_of : Spe → Locking
locking_of P = record { slot = P.channels.slot; atomic = P.channels.atomic; reserved = P.reserved }

-- ---- tag requests and stalls

-- the request that wasn't answered yet, by the operation of an instruction of P
abbrev pub asked_after : Spe → Option ChannelOp → Option Request → Option Request
asked_after P None was = was
asked_after P (Some (Read rt ch)) was = if ch == 24 then None else was
asked_after P (Some (Count rt ch)) was = was
asked_after P (Some (Write ch value)) was = if ch == 23 then Some (record { how = value; mask = P.tags.mask }) else was

-- whether the stall status was read, and its stall not acknowledged yet
abbrev pub owes_after : Option ChannelOp → Bool → Bool
owes_after None was = was
owes_after (Some (Read rt ch)) was = (ch == 25) || was
owes_after (Some (Count rt ch)) was = was
owes_after (Some (Write ch value)) was = if ch == 26 then false else was

unfoldable pub asked : Recorded → ℕ → ℕ → Option Request
asked r p zero = None
asked r p (suc j) = if is_exec p (r.step j) then asked_after (spe_before r p j) (asks (spe_before r p j)) (asked r p j) else asked r p j

unfoldable pub owes : Recorded → ℕ → ℕ → Bool
owes r p zero = false
owes r p (suc j) = if is_exec p (r.step j) then owes_after (asks (spe_before r p j)) (owes r p j) else owes r p j

-- the tag groups of the stalled lists, as bits
abbrev pub is_stalled_number : Moves → ℕ → Bool
is_stalled_number m c = option_map_or (is_stalled m c) (slice_get m.issued c) false

unfoldable pub stalled_groups : Moves → ℕ
stalled_groups m = fold (with_group m.issued) 0 (filter (is_stalled_number m) (range_with_len 0 (length m.issued)))

-- ---- mailboxes

-- the values in mailbox m of P: 0 inbound, 1 outbound, 2 interrupt
abbrev pub box_of : ℕ → Spe → List ℕ
box_of m P = if m == 0 then P.inbound else if m == 1 then P.outbound else P.interrupt

-- the values put into it before place j, and how many were taken out of it
unfoldable pub put_values : Recorded → ℕ → ℕ → ℕ → List ℕ
put_values r p m zero = []
put_values r p m (suc j) =
    put_values r p m j ++ (if is_put_note p m (r.effect j).note then option_map_or (λ v. v ∷ []) (last_or None (box_of m (spe_before r p (suc j)))) [] else [])

unfoldable pub taken_values : Recorded → ℕ → ℕ → ℕ → ℕ
taken_values r p m zero = 0
taken_values r p m (suc j) = taken_values r p m j + (if is_take_note p m (r.effect j).note then 1 else 0)
