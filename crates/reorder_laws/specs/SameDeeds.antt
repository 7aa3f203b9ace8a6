-- What an instruction's deed says of the state that it found, and where another state gives the same deed.
use Rattle.std.specs.Prelude.{◌≡◌, ℕ, ◌<◌, ◌==◌, true, if◌then◌else◌, length, Option, Some, None, is_some, slice_get}
use Rattle.cell_base.specs.declared.steps.ChannelOp.{ChannelOp}
use Rattle.cell_base.specs.declared.steps.ChannelOp.TheVariants.{Read, Count, Write}
use Rattle.cell_machine.specs.declared.status.Status.{Status}
use Rattle.cell_machine.specs.declared.status.Status.TheVariants.{Running, Stopped, Halted, BadWord, BadChannel, DmaFault}
use Rattle.cell_machine.specs.Spe.{Spe}
use Rattle.cell_machine.specs.Moves.{outstanding, stalls_of_tag}
use Rattle.cell_machine.specs.Exec.{asks}
use Rattle.reorder_laws.specs.Deeds.{Did, Ends, Goes, Asked, Plain, SetParams, SetMask, AskTags, TakeTags, TakeStalls, TakeAtomic, TakeValue, Queue, FillSlot, Resume, PutValue, PutInterrupt, TakeSignal, LeaveEvents, exec_deed}

-- ---- the same deed

-- P lets what K does with its channels be done, and gives it the same value; of signals and events this says nothing
abbrev pub GivesSame : Spe → Spe → Asked → Type 0
GivesSame K P Plain = Unit {0}
GivesSame K P (SetParams params) = Unit {0}
GivesSame K P (SetMask mask) = Unit {0}
GivesSame K P (AskTags how) = Unit {0}
GivesSame K P (TakeTags t) = P.tags.status ≡ Some t
GivesSame K P (TakeStalls bits) = P.channels.stalls ≡ bits
GivesSame K P TakeAtomic = P.channels.atomic ≡ K.channels.atomic
GivesSame K P TakeValue = slice_get P.inbound 0 ≡ slice_get K.inbound 0
GivesSame K P (Queue number d) = (length P.moves.issued ≡ number) × (length (outstanding P) < 16)
GivesSame K P (FillSlot a) = P.channels.slot ≡ None
GivesSame K P (Resume tag stalls) = stalls_of_tag P.moves tag ≡ stalls
GivesSame K P (PutValue value) = length P.outbound < 1
GivesSame K P (PutInterrupt value) = length P.interrupt < 1
GivesSame K P (TakeSignal r) = ⊥
GivesSame K P (LeaveEvents events) = ⊥

-- and there is no fault
abbrev pub EndsSame : Status → Type 0
EndsSame Running = Unit {0}
EndsSame (Stopped code) = Unit {0}
EndsSame Halted = Unit {0}
EndsSame BadWord = Unit {0}
EndsSame BadChannel = Unit {0}
EndsSame (DmaFault kind) = ⊥

abbrev pub LooksSame : Spe → Spe → Did → Type 0
LooksSame K P (Ends status x) = EndsSame status
LooksSame K P (Goes x a) = GivesSame K P a

-- a processor that is where K is, and gives the same, does the same, but for an instruction that reads a count
abbrev pub ExecSameDeed : Type 0
ExecSameDeed = (lines : ℕ) (K P : Spe) (d : Did) → K.status ≡ P.status → K.pc ≡ P.pc → K.registers ≡ P.registers → K.store ≡ P.store → K.channels.params ≡ P.channels.params → K.tags.mask ≡ P.tags.mask
    → ((rt ch : ℕ) → asks K ≡ Some (Count rt ch) → ⊥) → exec_deed lines K ≡ Some d → LooksSame K P d → exec_deed lines P ≡ Some d

-- ---- what a deed found

-- the operations that have to do with tag requests and stalls
pub data OpKind : Type 0 where
  AsksTags : ℕ → OpKind
  ReadsTags : OpKind
  ReadsStalls : OpKind
  Resumes : ℕ → OpKind
  OtherOp : OpKind

abbrev pub op_kind : Option ChannelOp → OpKind
op_kind None = OtherOp
op_kind (Some (Read rt ch)) = if ch == 24 then ReadsTags else if ch == 25 then ReadsStalls else OtherOp
op_kind (Some (Count rt ch)) = OtherOp
op_kind (Some (Write ch value)) = if ch == 23 then AsksTags value else if ch == 26 then Resumes value else OtherOp

abbrev pub asked_kind : Asked → OpKind
asked_kind Plain = OtherOp
asked_kind (SetParams params) = OtherOp
asked_kind (SetMask mask) = OtherOp
asked_kind (AskTags how) = AsksTags how
asked_kind (TakeTags t) = ReadsTags
asked_kind (TakeStalls bits) = ReadsStalls
asked_kind TakeAtomic = OtherOp
asked_kind TakeValue = OtherOp
asked_kind (Queue number d) = OtherOp
asked_kind (FillSlot a) = OtherOp
asked_kind (Resume tag stalls) = Resumes tag
asked_kind (PutValue value) = OtherOp
asked_kind (PutInterrupt value) = OtherOp
asked_kind (TakeSignal r) = OtherOp
asked_kind (LeaveEvents events) = OtherOp

abbrev pub did_kind : Did → OpKind
did_kind (Ends status x) = OtherOp
did_kind (Goes x a) = asked_kind a

-- the channels of events and signals have the numbers 0 to 11
abbrev pub IsOfEvents : Option ChannelOp → Type 0
IsOfEvents None = ⊥
IsOfEvents (Some (Read rt ch)) = ch < 12
IsOfEvents (Some (Count rt ch)) = ⊥
IsOfEvents (Some (Write ch value)) = ch < 12

-- what P had, and which operation it was
abbrev pub FoundBy : Spe → Option ChannelOp → Asked → Type 0
FoundBy P op Plain = Unit {0}
FoundBy P op (SetParams params) = Unit {0}
FoundBy P op (SetMask mask) = op ≡ Some (Write 22 mask)
FoundBy P op (AskTags how) = op ≡ Some (Write 23 how)
FoundBy P op (TakeTags t) = (P.tags.status ≡ Some t) × ((rt : ℕ) × (op ≡ Some (Read rt 24)))
FoundBy P op (TakeStalls bits) = (bits ≡ P.channels.stalls) × (0 < bits) × ((rt : ℕ) × (op ≡ Some (Read rt 25)))
FoundBy P op TakeAtomic = (is_some P.channels.atomic ≡ true) × ((rt : ℕ) × (op ≡ Some (Read rt 27)))
FoundBy P op TakeValue = (0 < length P.inbound) × ((rt : ℕ) × (op ≡ Some (Read rt 29)))
FoundBy P op (Queue number d) = (number ≡ length P.moves.issued) × (length (outstanding P) < 16) × ((value : ℕ) × (op ≡ Some (Write 21 value)))
FoundBy P op (FillSlot a) = (P.channels.slot ≡ None) × ((value : ℕ) × (op ≡ Some (Write 21 value)))
FoundBy P op (Resume tag stalls) = (stalls ≡ stalls_of_tag P.moves tag) × (op ≡ Some (Write 26 tag))
FoundBy P op (PutValue value) = (length P.outbound < 1) × (op ≡ Some (Write 28 value))
FoundBy P op (PutInterrupt value) = (length P.interrupt < 1) × (op ≡ Some (Write 30 value))
FoundBy P op (TakeSignal r) = IsOfEvents op
FoundBy P op (LeaveEvents events) = IsOfEvents op

abbrev pub Found : Spe → Did → Type 0
Found P (Ends status x) = Unit {0}
Found P (Goes x a) = FoundBy P (asks P) a

abbrev pub ExecFinds : Type 0
ExecFinds = (lines : ℕ) (P : Spe) (d : Did) → exec_deed lines P ≡ Some d → Found P d

abbrev pub ExecKinds : Type 0
ExecKinds = (lines : ℕ) (P : Spe) (d : Did) → exec_deed lines P ≡ Some d → op_kind (asks P) ≡ did_kind d
