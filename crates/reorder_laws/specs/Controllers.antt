-- What a step of a flow controller looks at and changes.
use Rattle.std.specs.Prelude.{◌≡◌, ℕ, ◌+◌, ◌*◌, ◌^◌, ◌<◌, ◌||◌, Bool, true, false, bit_or, if◌then◌else◌, List, Some, None, Result, Ok, Err, slice_get, slice_range}
use Rattle.cell_base.specs.Bytes.{put}
use Rattle.mfc_command.specs.declared.command.Command.{Command}
use Rattle.mfc_command.specs.declared.command.AtomicOp.{AtomicOp}
use Rattle.mfc_command.specs.declared.command.DmaFault.{DmaFault as Fault}
use Rattle.mfc_command.specs.declared.command.Kind.{Kind}
use Rattle.mfc_command.specs.declared.range.Part.{Part}
use Rattle.mfc_command.specs.Order.{goes_before}
use Rattle.mfc_lists.specs.declared.Element.{Element}
use Rattle.lock_lines.specs.Versions.{version_of}
use Rattle.cell_machine.specs.declared.status.Status.TheVariants.{DmaFault}
use Rattle.cell_machine.specs.Spe.{Spe, Moves, is_faulted}
use Rattle.cell_machine.specs.Memory.{MainMemory, stored}
use Rattle.cell_machine.specs.Moves.{read_of, is_done, is_resumed, was_retired, present, is_stalled, is_complete, may_begin}
use Rattle.cell_machine.specs.Transfers.{Left, piece, elem, retire, may_piece, may_elem, may_retire, is_put, is_signal, delivery, part_in, next_element, with_done, with_read, with_retired}
use Rattle.cell_machine.specs.Atomic.{Fate, Got, Stored, Lost, atomic, may_atomic, answered, fate}

-- ---- what it leaves

-- the stall status after the commands were moved on: it has the bit of d's tag, where d stalls
abbrev pub stalls_after : Moves → ℕ → Command → ℕ → ℕ
stalls_after m c d stalls = if is_stalled m c d then bit_or stalls (2 ^ d.tag) else stalls

-- P with its commands moved on to m by a step of command c, which is d
abbrev pub moved_on : Spe → Moves → ℕ → Command → Spe
moved_on P m c d = record P { moves = m; channels = record P.channels { stalls = stalls_after m c d P.channels.stalls } }

-- the store and the memory after a part was moved
abbrev pub store_after : MainMemory → Spe → Kind → Part → List ℕ
store_after memory P kind x = if is_put kind || is_signal kind then P.store else put P.store x.ls (slice_range memory.bytes x.ea (x.ea + x.len))

abbrev pub memory_after : MainMemory → Spe → Bool → Part → MainMemory
memory_after memory P put_it x = if put_it then stored memory x.ea (slice_range P.store x.ls (x.ls + x.len)) else memory

-- what part k of the element x of command c, which is d, leaves; the part of a signal is on its way to a register
abbrev pub part_left : MainMemory → Spe → ℕ → ℕ → Command → Element → Left
part_left memory P c k d x = record {
  spe = record (moved_on P (with_done P.moves c x.number k) c d) { store = store_after memory P d.kind (part_in x k) };
  memory = memory_after memory P (is_put d.kind) (part_in x k);
  sent = if is_signal d.kind then Some (delivery P (part_in x k)) else None;
}

pub record IsPiece (memory : MainMemory) (P : Spe) (c e k : ℕ) (x : Left) : Type 0 where
  pub may : may_piece P c e k ≡ true
  pub command : Command
  pub at : slice_get P.moves.issued c ≡ Some command
  pub element : Element
  pub present_is : present P.moves.read c command ≡ Some element
  pub number : element.number ≡ e
  pub is : x ≡ part_left memory P c k command element

abbrev pub PieceLeaves : Type 0
PieceLeaves = (memory : MainMemory) (P : Spe) (c e k : ℕ) (x : Left) → piece memory P c e k ≡ Some x → IsPiece memory P c e k x

abbrev pub PieceMade : Type 0
PieceMade = (memory : MainMemory) (P : Spe) (c e k : ℕ) (d : Command) (x : Element) → may_piece P c e k ≡ true → slice_get P.moves.issued c ≡ Some d
    → present P.moves.read c d ≡ Some x → piece memory P c e k ≡ Some (part_left memory P c k d x)

-- what an element that was read leaves, or one at fault
abbrev pub element_left : Spe → ℕ → Command → Result Element Fault → Spe
element_left P c d (Ok x) = moved_on P (with_read P.moves c x) c d
element_left P c d (Err kind) = record P { status = DmaFault kind }

pub record IsElem (lines : ℕ) (P : Spe) (c : ℕ) (Q : Spe) : Type 0 where
  pub may : may_elem P c ≡ true
  pub command : Command
  pub at : slice_get P.moves.issued c ≡ Some command
  pub is : Q ≡ element_left P c command (next_element lines P c command)

abbrev pub ElemLeaves : Type 0
ElemLeaves = (lines : ℕ) (P : Spe) (c : ℕ) (Q : Spe) → elem lines P c ≡ Some Q → IsElem lines P c Q

abbrev pub ElemMade : Type 0
ElemMade = (lines : ℕ) (P : Spe) (c : ℕ) (d : Command) → may_elem P c ≡ true → slice_get P.moves.issued c ≡ Some d
    → elem lines P c ≡ Some (element_left P c d (next_element lines P c d))

abbrev pub RetireLeaves : Type 0
RetireLeaves = (P : Spe) (c : ℕ) (Q : Spe) → retire P c ≡ Some Q → (may_retire P c ≡ true) × (Q ≡ record P { moves = with_retired P.moves c })

abbrev pub RetireMade : Type 0
RetireMade = (P : Spe) (c : ℕ) → may_retire P c ≡ true → retire P c ≡ Some (record P { moves = with_retired P.moves c })

-- what becomes of the line of an atomic command
abbrev pub line_left : MainMemory → Spe → AtomicOp → Fate → Left
line_left memory P a Got = record {
  spe = record (answered memory P a) { store = put P.store a.ls (slice_range memory.bytes (128 * a.line) (128 * a.line + 128)) };
  memory = memory;
  sent = None;
}
line_left memory P a Stored = record { spe = answered memory P a; memory = stored memory (128 * a.line) (slice_range P.store a.ls (a.ls + 128)); sent = None }
line_left memory P a Lost = record { spe = answered memory P a; memory = memory; sent = None }

pub record IsAtomic (memory : MainMemory) (P : Spe) (x : Left) : Type 0 where
  pub may : may_atomic P ≡ true
  pub command : AtomicOp
  pub slot : P.channels.slot ≡ Some command
  pub is : x ≡ line_left memory P command (fate memory P command)

abbrev pub AtomicLeaves : Type 0
AtomicLeaves = (memory : MainMemory) (P : Spe) (x : Left) → atomic memory P ≡ Some x → IsAtomic memory P x

abbrev pub AtomicMade : Type 0
AtomicMade = (memory : MainMemory) (P : Spe) (a : AtomicOp) → may_atomic P ≡ true → P.channels.slot ≡ Some a
    → atomic memory P ≡ Some (line_left memory P a (fate memory P a))

-- ---- what it looks at

-- of command c the same was done
pub record SameCommand (m n : Moves) (c : ℕ) : Type 0 where
  pub issued : slice_get n.issued c ≡ slice_get m.issued c
  pub read : read_of n.read c ≡ read_of m.read c
  pub done : is_done n.done c ≡ is_done m.done c
  pub retired : was_retired n.retired c ≡ was_retired m.retired c
  pub resumed : is_resumed n.resumed c ≡ is_resumed m.resumed c

-- Q isn't at fault, of command c it has what P has, and the command may begin
pub record SeesCommand (P Q : Spe) (c : ℕ) : Type 0 where
  pub sound : is_faulted Q.status ≡ false
  pub same : SameCommand P.moves Q.moves c
  pub begins : may_begin Q.moves c ≡ true

-- so the same steps of c are allowed, of the same element, and they stall alike
pub record AllowsCommand (P Q : Spe) (c : ℕ) : Type 0 where
  pub piece : (e k : ℕ) → may_piece P c e k ≡ true → may_piece Q c e k ≡ true
  pub elem : may_elem P c ≡ true → may_elem Q c ≡ true
  pub retire : may_retire P c ≡ true → may_retire Q c ≡ true
  pub present_is : (d : Command) → present Q.moves.read c d ≡ present P.moves.read c d
  pub stalled : (d : Command) → is_stalled Q.moves c d ≡ is_stalled P.moves c d
  pub stalled_piece : (e k : ℕ) (d : Command) → is_stalled (with_done Q.moves c e k) c d ≡ is_stalled (with_done P.moves c e k) c d
  pub stalled_elem : (x : Element) (d : Command) → is_stalled (with_read Q.moves c x) c d ≡ is_stalled (with_read P.moves c x) c d
  pub complete : is_complete Q.moves c ≡ is_complete P.moves c
  pub element : (lines : ℕ) (d : Command) → Q.store ≡ P.store → next_element lines Q c d ≡ next_element lines P c d

abbrev pub CommandsAllowed : Type 0
CommandsAllowed = (P Q : Spe) (c : ℕ) → SeesCommand P Q c → AllowsCommand P Q c

-- a command may begin exactly where each that goes before it is complete
abbrev pub BeginsBehind : Type 0
BeginsBehind = (m : Moves) (c : ℕ) → ((b : ℕ) → b < c → goes_before m.issued b c ≡ true → is_complete m b ≡ true) → may_begin m c ≡ true

abbrev pub BegunBehind : Type 0
BegunBehind = (P : Spe) (b c : ℕ) → may_begin P.moves c ≡ true → goes_before P.moves.issued b c ≡ true → is_complete P.moves b ≡ true

-- whether b goes before c looks at these two alone
abbrev pub GoesAlike : Type 0
GoesAlike = (issued later : List Command) (b c : ℕ) → slice_get later b ≡ slice_get issued b → slice_get later c ≡ slice_get issued c → goes_before later b c ≡ goes_before issued b c

-- Q isn't at fault, has the same command in its slot and the same reservation, and the line of that command has the same version
pub record SeesAtomic (memory other : MainMemory) (P Q : Spe) : Type 0 where
  pub sound : is_faulted Q.status ≡ false
  pub slot : Q.channels.slot ≡ P.channels.slot
  pub reserved : Q.reserved ≡ P.reserved
  pub version : (a : AtomicOp) → P.channels.slot ≡ Some a → version_of other.versions a.line ≡ version_of memory.versions a.line

-- so the atomic command is allowed, with the same fate, status and reservation
pub record AllowsAtomic (memory other : MainMemory) (P Q : Spe) : Type 0 where
  pub may : may_atomic P ≡ true → may_atomic Q ≡ true
  pub fate_is : (a : AtomicOp) → P.channels.slot ≡ Some a → fate other Q a ≡ fate memory P a
  pub status : (a : AtomicOp) → P.channels.slot ≡ Some a → (answered other Q a).channels.atomic ≡ (answered memory P a).channels.atomic
  pub reserved : (a : AtomicOp) → P.channels.slot ≡ Some a → (answered other Q a).reserved ≡ (answered memory P a).reserved

abbrev pub AtomicsAllowed : Type 0
AtomicsAllowed = (memory other : MainMemory) (P Q : Spe) → SeesAtomic memory other P Q → AllowsAtomic memory other P Q
