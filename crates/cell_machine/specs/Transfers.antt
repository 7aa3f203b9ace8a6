-- The steps of queued commands: pieces, the reading of list elements, and retirements.
use Rattle.std.specs.Prelude.{ℕ, ◌+◌, ◌*◌, ◌^◌, Bool, true, false, not, ◌&&◌, ◌==◌, nat_lt, bit_or, if◌then◌else◌, List, [], ◌∷◌, ◌++◌, length, Option, Some, None, Result, Ok, Err, slice_get, slice_range}
use Rattle.std.specs.Option.{option_map, option_map_or, option_and_then}
use Rattle.cell_base.specs.Bytes.{put}
use Rattle.local_store.specs.Store.{word_at}
use Rattle.mfc_command.specs.declared.command.Command.{Command}
use Rattle.mfc_command.specs.declared.command.DmaFault.{DmaFault as Fault}
use Rattle.mfc_command.specs.declared.command.Kind.{Kind}
use Rattle.mfc_command.specs.declared.command.Kind.TheVariants.{Put, Get, PutList, GetList, Barrier, PutQueued, Signal}
use Rattle.mfc_command.specs.declared.range.Part.{Part}
use Rattle.mfc_command.specs.Order.{is_list}
use Rattle.mfc_command.specs.Parts.{part_of}
use Rattle.mfc_lists.specs.declared.Element.{Element}
use Rattle.mfc_lists.specs.Elements.{element_of}
use Rattle.cell_machine.specs.declared.status.Status.TheVariants.{DmaFault}
use Rattle.cell_machine.specs.Spe.{Spe, Moves, PartDone, is_faulted}
use Rattle.cell_machine.specs.Memory.{MainMemory, stored}
use Rattle.cell_signals.specs.Registers.{processor_in, register_in}
use Rattle.cell_machine.specs.declared.signals.Delivery.{Delivery}
use Rattle.cell_machine.specs.Moves.{is_moved, read_of, present, parts_in, is_done, is_stalled, is_at_rest, are_all_there, was_retired, may_begin}

-- whether command c, which passes a test, may begin
abbrev pub begins : Moves → ℕ → (Command → Bool) → Bool
begins m c f = option_map_or f (slice_get m.issued c) false && may_begin m c

-- whether the flow controller of P makes steps of it
abbrev pub may_of : Spe → ℕ → (Command → Bool) → Bool
may_of P c f = not (is_faulted P.status) && begins P.moves c f

-- the bit of a tag is set in the stall status
abbrev pub told : Spe → ℕ → Spe
told P tag = record P { channels = record P.channels { stalls = bit_or P.channels.stalls (2 ^ tag) } }

-- a flagged element that is finished sets the bit of its tag
abbrev pub notified : Spe → ℕ → Command → Spe
notified P c d = if is_stalled P.moves c d then told P d.tag else P

-- ---- pieces

-- whether k is one of the parts of element x, whose number is e, and isn't done
abbrev pub is_part_left : List PartDone → ℕ → ℕ → ℕ → Element → Bool
is_part_left done c e k x = x.number == e && nat_lt k (parts_in x) && not (is_done done c e k)

-- a piece is of the present element
abbrev pub has_part : Moves → ℕ → ℕ → ℕ → Command → Bool
has_part m c e k d = is_moved d && option_map_or (is_part_left m.done c e k) (present m.read c d) false

unfoldable pub may_piece : Spe → ℕ → ℕ → ℕ → Bool
may_piece P c e k = may_of P c (has_part P.moves c e k)

-- whether its bytes go to the memory
abbrev pub is_put : Kind → Bool
is_put Put = true
is_put Get = false
is_put PutList = true
is_put GetList = false
is_put Barrier = false
is_put PutQueued = true
is_put Signal = false

-- whether they go to a signal register
abbrev pub is_signal : Kind → Bool
is_signal Signal = true
is_signal Put = false
is_signal Get = false
is_signal PutList = false
is_signal GetList = false
is_signal Barrier = false
is_signal PutQueued = false

-- what a step leaves: the processor, the main memory, and what is on its way to a signal register
pub record Left : Type 0 where
  pub spe : Spe
  pub memory : MainMemory
  pub sent : Option Delivery

-- the bytes of a part are copied to the memory, or to the store
unfoldable pub copied : MainMemory → Spe → Bool → Part → Left
copied memory P put_it x =
    if put_it
    then record { spe = P; memory = stored memory x.ea (slice_range P.store x.ls (x.ls + x.len)); sent = None }
    else record { spe = record P { store = put P.store x.ls (slice_range memory.bytes x.ea (x.ea + x.len)) }; memory = memory; sent = None }

-- the word of a part goes to the register that its effective address numbers
abbrev pub delivery : Spe → Part → Delivery
delivery P x = record { spe = processor_in x.ea; register = register_in x.ea; value = word_at P.store x.ls }

unfoldable pub sent : MainMemory → Spe → Part → Left
sent memory P x = record { spe = P; memory = memory; sent = Some (delivery P x) }

abbrev pub moved : MainMemory → Spe → Kind → Part → Left
moved memory P kind x = if is_signal kind then sent memory P x else copied memory P (is_put kind) x

abbrev pub with_done : Moves → ℕ → ℕ → ℕ → Moves
with_done m c e k = record m { done = m.done ++ record { cmd = c; elem = e; part = k } ∷ [] }

-- P with part k of element e of command c, which is d, done
abbrev pub after_part : Spe → ℕ → ℕ → ℕ → Command → Spe
after_part P c e k d = notified (record P { moves = with_done P.moves c e k }) c d

-- part k of an element
abbrev pub part_in : Element → ℕ → Part
part_in x k = part_of x.ls x.ea x.size k

abbrev pub piece_of : MainMemory → Spe → ℕ → ℕ → Command → Element → Left
piece_of memory P c k d x = moved memory (after_part P c x.number k d) d.kind (part_in x k)

-- what is left after part k of element e of command c
unfoldable pub piece : MainMemory → Spe → ℕ → ℕ → ℕ → Option Left
piece memory P c e k =
    if may_piece P c e k
    then option_and_then (λ d. option_map (piece_of memory P c k d) (present P.moves.read c d)) (slice_get P.moves.issued c)
    else None

-- ---- elements

-- whether command c, which is d, has an element left, each that was read is finished, and the command isn't stalled
abbrev pub has_element : Moves → ℕ → Command → Bool
has_element m c d = is_list d.kind && not (are_all_there m.read c d) && is_at_rest m c d

unfoldable pub may_elem : Spe → ℕ → Bool
may_elem P c = may_of P c (has_element P.moves c)

-- the address of the next element of command c, which is d
abbrev pub next_at : Moves → ℕ → Command → ℕ
next_at m c d = d.ea + 8 * length (read_of m.read c)

-- what stands there now
abbrev pub next_element : ℕ → Spe → ℕ → Command → Result Element Fault
next_element lines P c d =
    let at = next_at P.moves c d in
    element_of d.ls (read_of P.moves.read c) lines (word_at P.store at) (word_at P.store (at + 4))

abbrev pub with_read : Moves → ℕ → Element → Moves
with_read m c x = record m { read = m.read ++ record { cmd = c; element = x } ∷ [] }

-- the element is read, or its fault takes the place of any status
abbrev pub after_element : Spe → ℕ → Command → Result Element Fault → Spe
after_element P c d (Ok x) = notified (record P { moves = with_read P.moves c x }) c d
after_element P c d (Err kind) = record P { status = DmaFault kind }

-- P after the next element of command c was read; the main memory has so many lines
unfoldable pub elem : ℕ → Spe → ℕ → Option Spe
elem lines P c =
    if may_elem P c then option_map (λ d. after_element P c d (next_element lines P c d)) (slice_get P.moves.issued c) else None

-- ---- retirements

-- whether command c, which is d, is one that is retired, and wasn't
abbrev pub is_left : Moves → ℕ → Command → Bool
is_left m c d = not (is_moved d) && not (was_retired m.retired c)

unfoldable pub may_retire : Spe → ℕ → Bool
may_retire P c = may_of P c (is_left P.moves c)

abbrev pub with_retired : Moves → ℕ → Moves
with_retired m c = record m { retired = m.retired ++ c ∷ [] }

-- P after command c was retired
unfoldable pub retire : Spe → ℕ → Option Spe
retire P c = if may_retire P c then Some (record P { moves = with_retired P.moves c }) else None
