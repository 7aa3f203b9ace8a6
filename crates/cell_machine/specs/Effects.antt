-- What a step fetches, reads and writes, and what it tells. Signal registers are numbered 1 and 2; mailboxes are numbered 0 inbound, 1 outbound, 2 interrupt.
use Rattle.std.specs.Prelude.{ℕ, ◌*◌, Bool, true, false, not, ◌==◌, ◌&&◌, nat_lt, if◌then◌else◌, length, Option, Some, None, Result, Ok, Err, slice_get}
use Rattle.std.specs.Option.{option_and_then, option_map, option_map_or}
use Rattle.cell_base.specs.declared.steps.ChannelOp.{ChannelOp}
use Rattle.cell_base.specs.declared.steps.ChannelOp.TheVariants.{Read, Count, Write}
use Rattle.cell_base.specs.declared.steps.Step.{Step}
use Rattle.cell_base.specs.declared.steps.Step.TheVariants.{Exec, Piece, Elem, Retire, Atomic, Host}
use Rattle.cell_host.specs.declared.HostAction.{HostAction}
use Rattle.cell_host.specs.declared.HostAction.TheVariants.{Send, Take as TakeOut, TakeIntr, Store, Await, Signal as SignalTo}
use Rattle.spu_decode.specs.declared.Instr.{Instr}
use Rattle.spu_decode.specs.Spelling.{instr_of}
use Rattle.spu_regs.specs.Registers.{register}
use Rattle.spu_exec.specs.Meaning.{loaded_at, stored_at}
use Rattle.local_store.specs.Store.{line_of, word_at}
use Rattle.mfc_command.specs.declared.command.Command.{Command}
use Rattle.mfc_command.specs.declared.command.AtomicOp.{AtomicOp}
use Rattle.mfc_command.specs.declared.command.DmaFault.{DmaFault}
use Rattle.mfc_command.specs.declared.range.Part.{Part}
use Rattle.mfc_lists.specs.declared.Element.{Element}
use Rattle.cell_machine.specs.declared.effect.Place.TheVariants.{Memory, Local}
use Rattle.cell_machine.specs.declared.effect.Span.{Span}
use Rattle.cell_machine.specs.declared.effect.Note.{Note}
use Rattle.cell_machine.specs.declared.effect.Note.TheVariants.{Nothing, Issue, AtomicIssue, TagRead, StallRead, Ack, AtomicRead, Put, Take, Ended, Awaited, Element as Reading, Signal}
use Rattle.cell_machine.specs.declared.effect.Effect.{Effect}
use Rattle.cell_machine.specs.Spe.{Spe, is_running}
use Rattle.cell_machine.specs.State.{State}
use Rattle.cell_machine.specs.Moves.{present, parts_in}
pub use Rattle.cell_machine.specs.Tags.{is_fixed, fixes}
use Rattle.cell_machine.specs.Exec.{exec, asks}
use Rattle.cell_machine.specs.declared.signals.Delivery.{Delivery}
use Rattle.cell_machine.specs.Transfers.{Left, piece, elem, retire, is_put, is_signal, part_in, next_at, next_element}
use Rattle.cell_machine.specs.Memory.{lines_of}
use Rattle.cell_machine.specs.Atomic.{Fate, Got, Stored, Lost, atomic, fate, line_part}
use Rattle.cell_machine.specs.Hosts.{acted}
use Rattle.cell_machine.specs.Run.{Ran, state_of}

-- ---- spans

abbrev pub nowhere : Span
nowhere = record { place = Memory; at = 0; len = 0 }

abbrev pub in_memory : ℕ → ℕ → Span
in_memory at len = record { place = Memory; at = at; len = len }

abbrev pub in_store : ℕ → ℕ → ℕ → Span
in_store p at len = record { place = Local p; at = at; len = len }

-- the quadword that holds an address, if there is one
abbrev pub quad_in : ℕ → Option ℕ → Span
quad_in p None = nowhere
quad_in p (Some at) = in_store p (line_of at) 16

-- ---- an instruction

-- the next instruction of P, where the word at its PC spells one
abbrev pub instr : Spe → Option Instr
instr P = instr_of (word_at P.store P.pc)

abbrev pub loads_at : Spe → Instr → Option ℕ
loads_at P i = loaded_at i.row i.imm P.pc (register P.registers i.ra) (register P.registers i.rb)

abbrev pub stores_at : Spe → Instr → Option ℕ
stores_at P i = stored_at i.row i.imm P.pc (register P.registers i.ra) (register P.registers i.rb)

-- what a write to MFC_Cmd tells: the command that came into the queue, or that one came into the slot
abbrev pub told_issue : Spe → Spe → Note
told_issue P Q = option_map_or (Issue (length P.moves.issued)) (slice_get Q.moves.issued (length P.moves.issued)) AtomicIssue

-- what an operation tells, of processor p before it and after it
abbrev pub told_by : ℕ → Spe → Spe → ChannelOp → Note
told_by p P Q (Read rt ch) =
    if ch == 3 then Signal p 1
    else if ch == 4 then Signal p 2
    else if ch == 24 then option_map_or (λ t. TagRead t.groups t.issued) P.tags.status Nothing
    else if ch == 25 then StallRead P.channels.stalls
    else if ch == 27 then AtomicRead
    else if ch == 29 then Take p 0
    else Nothing
told_by p P Q (Count rt ch) = Nothing
told_by p P Q (Write ch value) =
    if ch == 21 then told_issue P Q
    else if ch == 26 then Ack value
    else if ch == 28 then Put p 1
    else if ch == 30 then Put p 2
    else Nothing

-- a step with which a running processor ceases to run tells that alone
abbrev pub ends : Spe → Spe → Bool
ends P Q = is_running P.status && not (is_running Q.status)

abbrev pub told : ℕ → Spe → Spe → Option ChannelOp → Note
told p P Q op = if ends P Q then Ended else option_map_or (told_by p P Q) op Nothing

-- ---- the steps of one processor, before it and after it

abbrev pub exec_effect : ℕ → Spe → Spe → Effect
exec_effect p P Q = record {
  fetch = in_store p P.pc 4;
  reads = quad_in p (option_and_then (loads_at P) (instr P));
  writes = quad_in p (option_and_then (stores_at P) (instr P));
  note = told p P Q (asks P);
  fixed = fixes Q;
}

-- a part goes from the store to the memory, or from the memory to the store
abbrev pub part_reads : ℕ → Bool → Part → Span
part_reads p put_it x = if put_it then in_store p x.ls x.len else in_memory x.ea x.len

abbrev pub part_writes : ℕ → Bool → Part → Span
part_writes p put_it x = if put_it then in_memory x.ea x.len else in_store p x.ls x.len

abbrev pub copy_effect : ℕ → Bool → Part → Spe → Effect
copy_effect p put_it x Q = record {
  fetch = nowhere;
  reads = part_reads p put_it x;
  writes = part_writes p put_it x;
  note = Nothing;
  fixed = fixes Q;
}

-- a value that is delivered tells its register, where that is one of so many processors
abbrev pub told_delivery : ℕ → Option Delivery → Note
told_delivery spes None = Nothing
told_delivery spes (Some d) = if nat_lt d.spe spes then Signal d.spe d.register else Nothing

-- a signal is four bytes of the store, and no byte is written
abbrev pub signal_effect : ℕ → ℕ → Part → Left → Effect
signal_effect spes p x left = record {
  fetch = nowhere;
  reads = in_store p x.ls 4;
  writes = nowhere;
  note = told_delivery spes left.sent;
  fixed = fixes left.spe;
}

abbrev pub part_effect : ℕ → ℕ → Command → Part → Left → Effect
part_effect spes p d x left = if is_signal d.kind then signal_effect spes p x left else copy_effect p (is_put d.kind) x left.spe

abbrev pub piece_effect : ℕ → ℕ → ℕ → ℕ → Spe → Left → Command → Option Effect
piece_effect spes p c k P left d = option_map (λ x. part_effect spes p d (part_in x k) left) (present P.moves.read c d)

-- an element that was read tells its number, its parts and its flag; one at fault tells only that the processor ceased to run, if it did
abbrev pub told_element : Spe → Spe → Result Element DmaFault → Note
told_element P Q (Ok x) = Reading x.number (parts_in x) x.flagged
told_element P Q (Err kind) = if ends P Q then Ended else Nothing

abbrev pub elem_effect : ℕ → ℕ → ℕ → Spe → Spe → Command → Effect
elem_effect lines p c P Q d = record {
  fetch = nowhere;
  reads = in_store p (next_at P.moves c d) 8;
  writes = nowhere;
  note = told_element P Q (next_element lines P c d);
  fixed = fixes Q;
}

-- no byte is looked at or written
abbrev pub plain_effect : Spe → Effect
plain_effect Q = record { fetch = nowhere; reads = nowhere; writes = nowhere; note = Nothing; fixed = fixes Q }

-- a line that isn't stored is looked at all the same
abbrev pub line_effect : ℕ → AtomicOp → Spe → Fate → Effect
line_effect p a Q Got = copy_effect p false (line_part a) Q
line_effect p a Q Stored = copy_effect p true (line_part a) Q
line_effect p a Q Lost = record (plain_effect Q) { reads = in_memory (128 * a.line) 128 }

-- ---- the host

abbrev pub host_writes : HostAction → Span
host_writes (Store ea len bytes) = in_memory ea len
host_writes (Send p value) = nowhere
host_writes (TakeOut p) = nowhere
host_writes (TakeIntr p) = nowhere
host_writes (Await p) = nowhere
host_writes (SignalTo p r value) = nowhere

abbrev pub host_tells : HostAction → Note
host_tells (Send p value) = Put p 0
host_tells (TakeOut p) = Take p 1
host_tells (TakeIntr p) = Take p 2
host_tells (Store ea len bytes) = Nothing
host_tells (Await p) = Awaited p
host_tells (SignalTo p r value) = Signal p r

abbrev pub host_effect : HostAction → Effect
host_effect a = record { fetch = nowhere; reads = nowhere; writes = host_writes a; note = host_tells a; fixed = false }

-- ---- all of them

-- what is so of processor p where it is there
abbrev pub of_spe : {X : Type 0} → State → ℕ → (Spe → Option X) → Option X
of_spe M p f = option_and_then f (slice_get M.spes p)

-- and of command c of it
abbrev pub of_command : {X : Type 0} → Spe → ℕ → (Command → Option X) → Option X
of_command P c f = option_and_then f (slice_get P.moves.issued c)

-- the effect of a step, None where it isn't allowed
unfoldable pub effect_of : State → Step → Option Effect
effect_of M (Exec p) = of_spe M p (λ P. option_map (exec_effect p P) (exec (lines_of M.memory) P))
effect_of M (Piece p c e k) = of_spe M p (λ P. option_and_then (λ x. of_command P c (piece_effect (length M.spes) p c k P x)) (piece M.memory P c e k))
effect_of M (Elem p c) =
    of_spe M p (λ P. option_and_then (λ Q. of_command P c (λ d. Some (elem_effect (lines_of M.memory) p c P Q d))) (elem (lines_of M.memory) P c))
effect_of M (Retire p c) = of_spe M p (λ P. option_map plain_effect (retire P c))
effect_of M (Atomic p) =
    of_spe M p (λ P. option_and_then (λ x. option_map (λ a. line_effect p a x.spe (fate M.memory P a)) P.channels.slot) (atomic M.memory P))
effect_of M Host = option_and_then (λ a. option_map (λ d. host_effect a) (acted M a)) (slice_get M.host.script M.host.done)

-- the effect of one more step of a run, None where the budget is spent or the step isn't allowed
abbrev pub effect_in : Ran → Step → Option Effect
effect_in m s = if nat_lt (length m.steps) m.setup.budget then option_and_then (λ M. effect_of M s) (state_of m) else None
