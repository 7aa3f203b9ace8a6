-- What an instruction does, as a value: the value depends on the parts that the instruction looks at, and says how it changes each part.
use Rattle.std.specs.Prelude.{◌≡◌, ℕ, ◌==◌, List, [], ◌∷◌, ◌++◌, length, slice_set, if◌then◌else◌, Option, Some, None, is_some, slice_get, Result, Ok, Err}
use Rattle.std.specs.Option.{option_map}
use Rattle.cell_base.specs.Lanes.{in_first_word}
use Rattle.cell_base.specs.declared.steps.ChannelOp.{ChannelOp}
use Rattle.cell_base.specs.declared.steps.ChannelOp.TheVariants.{Read, Count, Write}
use Rattle.spu_decode.specs.declared.Instr.{Instr}
use Rattle.spu_decode.specs.Spelling.{instr_of}
use Rattle.spu_exec.specs.declared.flow.Flow.{Flow}
use Rattle.spu_exec.specs.declared.flow.Flow.TheVariants.{Next, Stop, Halt, Channel}
use Rattle.spu_exec.specs.Meaning.{meaning, Outcome}
use Rattle.spu_exec.specs.Places.{next_pc}
use Rattle.local_store.specs.Store.{word_at}
use Rattle.cell_channels.specs.State.{with_param}
use Rattle.cell_channels.specs.Table.{way_of}
use Rattle.cell_signals.specs.declared.events.Events.{Events}
use Rattle.cell_signals.specs.Registers.{register_of, emptied}
use Rattle.cell_signals.specs.Events.{cleared, status_of}
use Rattle.mfc_command.specs.declared.command.Command.{Command}
use Rattle.mfc_command.specs.declared.command.Params.{Params}
use Rattle.mfc_command.specs.declared.command.AtomicOp.{AtomicOp}
use Rattle.mfc_command.specs.declared.command.Order.{Order}
use Rattle.mfc_command.specs.declared.command.Order.TheVariants.{Queued, Atomic as InSlot}
use Rattle.mfc_command.specs.declared.command.DmaFault.{DmaFault as Fault}
use Rattle.mfc_command.specs.Check.{checked}
use Rattle.tag_groups.specs.declared.TagStatus.{TagStatus}
use Rattle.tag_groups.specs.Settle.{requested}
use Rattle.cell_machine.specs.declared.status.Status.{Status}
use Rattle.cell_machine.specs.declared.status.Status.TheVariants.{Stopped, Halted, BadWord, BadChannel, DmaFault}
use Rattle.cell_machine.specs.declared.effect.Note.{Note}
use Rattle.cell_machine.specs.declared.effect.Note.TheVariants.{Nothing, Issue, AtomicIssue, TagRead, StallRead, Ack, AtomicRead, Put, Take, Ended, Signal}
use Rattle.cell_machine.specs.Spe.{Spe, Stall, is_running}
use Rattle.cell_machine.specs.Moves.{stalls_of_tag}
use Rattle.cell_machine.specs.Exec.{exec, asks}
use Rattle.cell_machine.specs.Effects.{told}
use Rattle.cell_machine.specs.Channels.{is_read, is_write, count, may_read, may_write, with_issued, with_resumed}

-- ---- an instruction

-- where a processor comes to: its PC, its registers and its store
pub record Flowed : Type 0 where
  pub pc : ℕ
  pub registers : List (List ℕ)
  pub store : List ℕ

-- what an instruction asks of the channels, with what it takes from them and what it gives
pub data Asked : Type 0 where
  Plain : Asked
  SetParams : Params → Asked
  SetMask : ℕ → Asked
  AskTags : ℕ → Asked
  TakeTags : TagStatus → Asked
  TakeStalls : ℕ → Asked
  TakeAtomic : Asked
  TakeValue : Asked
  Queue : ℕ → Command → Asked  -- the command, and its number
  FillSlot : AtomicOp → Asked
  Resume : ℕ → List Stall → Asked  -- the tag, and the stalls that are acknowledged
  PutValue : ℕ → Asked
  PutInterrupt : ℕ → Asked
  TakeSignal : ℕ → Asked  -- the register
  LeaveEvents : Events → Asked  -- what an operation on a channel of events leaves of them

-- an instruction ends its processor's run, or goes on
pub data Did : Type 0 where
  Ends : Status → Flowed → Did
  Goes : Flowed → Asked → Did

abbrev pub flowed : Flowed → Spe → Spe
flowed x P = record P { pc = x.pc; registers = x.registers; store = x.store }

abbrev pub behind_first : List ℕ → List ℕ
behind_first [] = []
behind_first (value ∷ later) = later

abbrev pub asked : Asked → Spe → Spe
asked Plain P = P
asked (SetParams params) P = record P { channels = record P.channels { params = params } }
asked (SetMask mask) P = record P { tags = record P.tags { mask = mask } }
asked (AskTags how) P = record P { tags = requested P.tags how }
asked (TakeTags status) P = record P { tags = record P.tags { status = None } }
asked (TakeStalls bits) P = record P { channels = record P.channels { stalls = 0 } }
asked TakeAtomic P = record P { channels = record P.channels { atomic = None } }
asked TakeValue P = record P { inbound = behind_first P.inbound }
asked (Queue number d) P = record P { moves = with_issued P.moves d }
asked (FillSlot a) P = record P { channels = record P.channels { slot = Some a } }
asked (Resume tag stalls) P = record P { moves = with_resumed P.moves stalls }
asked (PutValue value) P = record P { outbound = P.outbound ++ value ∷ [] }
asked (PutInterrupt value) P = record P { interrupt = P.interrupt ++ value ∷ [] }
asked (TakeSignal r) P = record P { signals = emptied P.signals r }
asked (LeaveEvents events) P = record P { events = events }

abbrev pub did : Did → Spe → Spe
did (Ends status x) P = record (flowed x P) { status = status }
did (Goes x a) P = asked a (flowed x P)

-- what processor p tells of it
abbrev pub note_of_asked : ℕ → Asked → Note
note_of_asked p Plain = Nothing
note_of_asked p (SetParams params) = Nothing
note_of_asked p (SetMask mask) = Nothing
note_of_asked p (AskTags how) = Nothing
note_of_asked p (TakeTags status) = TagRead status.groups status.issued
note_of_asked p (TakeStalls bits) = StallRead bits
note_of_asked p TakeAtomic = AtomicRead
note_of_asked p TakeValue = Take p 0
note_of_asked p (Queue number d) = Issue number d
note_of_asked p (FillSlot a) = AtomicIssue
note_of_asked p (Resume tag stalls) = Ack tag
note_of_asked p (PutValue value) = Put p 1
note_of_asked p (PutInterrupt value) = Put p 2
note_of_asked p (TakeSignal r) = Signal p r
note_of_asked p (LeaveEvents events) = Nothing

abbrev pub note_of : ℕ → Did → Note
note_of p (Ends status x) = Ended
note_of p (Goes x a) = note_of_asked p a

-- to the same place, to the next instruction, and there with a value in word 0 of a register
abbrev pub stays : Spe → Flowed
stays P = record { pc = P.pc; registers = P.registers; store = P.store }

abbrev pub goes : Spe → Flowed
goes P = record { pc = next_pc P.pc; registers = P.registers; store = P.store }

abbrev pub gets : Spe → ℕ → ℕ → Flowed
gets P rt value = record { pc = next_pc P.pc; registers = slice_set P.registers rt (in_first_word value); store = P.store }

abbrev pub read_deed : Spe → ℕ → ℕ → Option Did
read_deed P rt ch =
    if ch == 0 then Some (Goes (gets P rt (status_of P.events)) (LeaveEvents P.events))
    else if ch == 3 then Some (Goes (gets P rt (register_of P.signals 1).value) (TakeSignal 1))
    else if ch == 4 then Some (Goes (gets P rt (register_of P.signals 2).value) (TakeSignal 2))
    else if ch == 11 then Some (Goes (gets P rt P.events.mask) (LeaveEvents P.events))
    else if ch == 12 then Some (Goes (gets P rt P.tags.mask) Plain)
    else if ch == 24 then option_map (λ t. Goes (gets P rt t.groups) (TakeTags t)) P.tags.status
    else if ch == 25 then Some (Goes (gets P rt P.channels.stalls) (TakeStalls P.channels.stalls))
    else if ch == 27 then option_map (λ status. Goes (gets P rt status) TakeAtomic) P.channels.atomic
    else if ch == 29 then option_map (λ value. Goes (gets P rt value) TakeValue) (slice_get P.inbound 0)
    else None

abbrev pub order_deed : Spe → Result Order Fault → Did
order_deed P (Ok (Queued d)) = Goes (goes P) (Queue (length P.moves.issued) d)
order_deed P (Ok (InSlot a)) = Goes (goes P) (FillSlot a)
order_deed P (Err kind) = Ends (DmaFault kind) (stays P)

abbrev pub write_deed : ℕ → Spe → ℕ → ℕ → Did
write_deed lines P ch value =
    if ch == 1 then Goes (goes P) (LeaveEvents (record P.events { mask = value }))
    else if ch == 2 then Goes (goes P) (LeaveEvents (cleared P.events value))
    else if ch == 21 then order_deed P (checked P.channels.params value lines)
    else if ch == 22 then Goes (goes P) (SetMask value)
    else if ch == 23 then Goes (goes P) (AskTags value)
    else if ch == 26 then Goes (goes P) (Resume value (stalls_of_tag P.moves value))
    else if ch == 28 then Goes (goes P) (PutValue value)
    else if ch == 30 then Goes (goes P) (PutInterrupt value)
    else Goes (goes P) (SetParams (with_param P.channels.params ch value))

abbrev pub bad_deed : Spe → Did
bad_deed P = Ends BadChannel (stays P)

unfoldable pub channel_deed : ℕ → Spe → ChannelOp → Option Did
channel_deed lines P (Read rt ch) = if is_read (way_of ch) then (if may_read P ch then read_deed P rt ch else None) else Some (bad_deed P)
channel_deed lines P (Count rt ch) = if is_some (way_of ch) then Some (Goes (gets P rt (count P ch)) Plain) else Some (bad_deed P)
channel_deed lines P (Write ch value) = if is_write (way_of ch) then (if may_write P ch value then Some (write_deed lines P ch value) else None) else Some (bad_deed P)

abbrev pub flow_deed : ℕ → Spe → Flow → Option Did
flow_deed lines P (Next pc) = Some (Goes (record { pc = pc; registers = P.registers; store = P.store }) Plain)
flow_deed lines P (Stop code next) = Some (Ends (Stopped code) (record { pc = next; registers = P.registers; store = P.store }))
flow_deed lines P (Halt next) = Some (Ends Halted (record { pc = next; registers = P.registers; store = P.store }))
flow_deed lines P (Channel op) = channel_deed lines P op

abbrev pub outcome_deed : ℕ → Spe → Outcome → Option Did
outcome_deed lines P o = flow_deed lines (record P { registers = o.regs; store = o.store }) o.flow

abbrev pub instr_deed : ℕ → Spe → Option Instr → Option Did
instr_deed lines P None = Some (Ends BadWord (stays P))
instr_deed lines P (Some i) = outcome_deed lines P (meaning i P.pc P.registers P.store)

-- what the next instruction of P does, None where it isn't allowed
unfoldable pub exec_deed : ℕ → Spe → Option Did
exec_deed lines P = if is_running P.status then instr_deed lines P (instr_of (word_at P.store P.pc)) else None

-- ---- law: an instruction does its deed, which says what it tells

abbrev pub ExecDoes : Type 0
ExecDoes = (lines : ℕ) (P : Spe) → exec lines P ≡ option_map (λ d. did d P) (exec_deed lines P)

abbrev pub ExecTells : Type 0
ExecTells = (p lines : ℕ) (P Q : Spe) (d : Did) → exec lines P ≡ Some Q → exec_deed lines P ≡ Some d → told p P Q (asks P) ≡ note_of p d
