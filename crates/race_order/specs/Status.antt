-- How far a queued command has come after some steps, for proofs and laws.
use Rattle.std.specs.Prelude.{ℕ, ◌+◌, ◌-◌, ◌*◌, ◌==◌, Bool, true, false, ◌&&◌, not, Option, Some, None, if◌then◌else◌}
use Rattle.std.specs.List.{fold}
use Rattle.cell_base.specs.declared.steps.Step.{Step}
use Rattle.cell_base.specs.declared.steps.Step.TheVariants.{Exec, Piece, Elem, Retire, Atomic, Host}
use Rattle.mfc_command.specs.declared.command.Kind.{Kind}
use Rattle.mfc_command.specs.declared.command.Command.{Command}
use Rattle.mfc_command.specs.Order.{is_barrier, is_list}
use Rattle.mfc_command.specs.Parts.{parts_of}
use Rattle.race_order.specs.declared.progress.Progress.{Progress}
use Rattle.cell_machine.specs.declared.effect.Note.{Note}
use Rattle.cell_machine.specs.declared.effect.Note.TheVariants.{Issue, Ack, Element}
use Rattle.race_order.specs.Trace.{Event, Trace}

-- neither BARRIER nor a list
abbrev pub is_single : Kind → Bool
is_single kind = not (is_barrier kind) && not (is_list kind)

-- one with bytes is complete after its pieces, a list after its elements; every other command is complete where it is retired
abbrev pub is_transfer : Command → Bool
is_transfer c = is_single c.kind && not (c.size == 0)

-- just issued: of a transfer all pieces are left
abbrev pub begun : Command → Progress
begun c = record { command = c; read = 0; left = if is_transfer c then parts_of c.ea c.size else 0; flagged = false; stalled = false; done = false }

-- whether one piece completes it
abbrev pub has_one_piece : Command → Bool
has_one_piece c = (begun c).left == 1

-- whether all elements, of eight bytes each, were read
abbrev pub is_last : Progress → Bool
is_last s = 8 * s.read == s.command.size

-- the last piece that was left is copied: a transfer is complete, a flagged element stalls its list, and the last element that isn't flagged completes it
abbrev pub finished : Progress → Progress
finished s =
    if is_transfer s.command then record s { left = 0; stalled = false; done = true } else record s { left = 0; stalled = s.flagged; done = not s.flagged && is_last s }

abbrev pub after_piece : Progress → Progress
after_piece s = if s.left == 1 then finished s else record s { left = s.left - 1 }

abbrev pub with_element : Progress → ℕ → Bool → Progress
with_element s parts flag = record s { read = s.read + 1; left = parts; flagged = flag; stalled = false }

-- the next element is read; one at fault is never finished
abbrev pub after_element : Progress → Note → Progress
after_element s (Element number parts flag) = if parts == 0 then finished (with_element s parts flag) else with_element s parts flag
after_element s _ = with_element s 1 false

-- an acknowledgement of its tag resumes a stalled list, which is complete where no element is left
abbrev pub after_ack : Progress → Note → Progress
after_ack s (Ack tag) = if s.stalled && (tag == s.command.tag) then record s { stalled = false; done = is_last s } else s
after_ack s _ = s

abbrev pub is_by : ℕ → ℕ → ℕ → ℕ → Bool
is_by p c q d = (q == p) && (d == c)

-- command c of processor p after a step, where it isn't complete
abbrev pub stepped : ℕ → ℕ → Progress → Step → Note → Progress
stepped p c s (Exec q) note = if q == p then after_ack s note else s
stepped p c s (Piece q d e k) note = if is_by p c q d then after_piece s else s
stepped p c s (Elem q d) note = if is_by p c q d then after_element s note else s
stepped p c s (Retire q d) note = if is_by p c q d then record s { stalled = false; done = true } else s
stepped p c s (Atomic q) note = s
stepped p c s Host note = s

abbrev pub issued_as : ℕ → Note → Option Progress
issued_as c (Issue d command) = if d == c then Some (begun command) else None
issued_as c _ = None

-- a command that isn't issued yet after a step
abbrev pub first_status : ℕ → ℕ → Step → Note → Option Progress
first_status p c (Exec q) note = if q == p then issued_as c note else None
first_status p c _ note = None

-- a complete command stays as it is
abbrev pub next_status : ℕ → ℕ → Option Progress → Event → Option Progress
next_status p c None e = first_status p c e.step e.effect.note
next_status p c (Some s) e = Some (if s.done then s else stepped p c s e.step e.effect.note)

-- how far the command c of processor p has come; None before its issue
abbrev pub status : ℕ → ℕ → Trace → Option Progress
status p c trace = fold (next_status p c) None trace

-- how many elements of a list are wholly done
abbrev pub elements_done : Progress → ℕ
elements_done s = if s.left == 0 then s.read else s.read - 1
