-- What is so of each step of a run, as far as it bears on the queues of commands.
use Rattle.std.specs.Prelude.{◌≡◌, ℕ, ◌+◌, ◌<◌, ◌≤◌, ◌==◌, ◌⊎◌, Bool, true, false, ⊤, Some, None, slice_get, take, IsBitSet}
use Rattle.cell_base.specs.declared.steps.Step.{Step}
use Rattle.cell_base.specs.declared.steps.Step.TheVariants.{Exec, Piece, Elem, Retire, Atomic, Host}
use Rattle.mfc_command.specs.declared.command.Command.{Command}
use Rattle.mfc_command.specs.Order.{precedes}
use Rattle.mfc_command.specs.Parts.{parts_of}
use Rattle.cell_machine.specs.declared.effect.Note.{Note}
use Rattle.cell_machine.specs.declared.effect.Note.TheVariants.{Issue, TagRead, Element, Put, Take, Signal}
use Rattle.race_order.specs.Trace.{Event, Trace, is_of}
use Rattle.race_order.specs.declared.progress.Progress.{Progress}
use Rattle.race_order.specs.Status.{status, is_transfer}
use Rattle.race_order.specs.Queue.{Has}
use Rattle.race_order.specs.Lines.{is_queued_line}

-- the note of the step that reads an element has its number; other numbers are below that of a faulty element
abbrev pub IsNumbered : ℕ → Note → Type 0
IsNumbered read (Element number parts flagged) = (number ≡ read) × (read < 65534)
IsNumbered read _ = read < 65534

-- a piece of a transfer has the element 0, one of a list the element that was read last; something of it is left.
-- An element is read where nothing is left of the one before and the list isn't stalled. A command that is retired has no pieces
abbrev pub FitsProgress : Progress → Step → Note → Type 0
FitsProgress s (Piece p d e k) note = (0 < s.left) × (((is_transfer s.command ≡ true) × (e ≡ 0)) ⊎ ((is_transfer s.command ≡ false) × (e + 1 ≡ s.read)))
FitsProgress s (Elem p d) note = (is_transfer s.command ≡ false) × (s.left ≡ 0) × (s.stalled ≡ false) × IsNumbered s.read note
FitsProgress s (Retire p d) note = (s.left ≡ 0) × (s.read ≡ 0)
FitsProgress s (Exec p) note = ⊤
FitsProgress s (Atomic p) note = ⊤
FitsProgress s Host note = ⊤

-- the note is of no mailbox
abbrev pub IsQuiet : Note → Type 0
IsQuiet (Put q m) = ⊥
IsQuiet (Take q m) = ⊥
IsQuiet _ = ⊤

-- a signal is delivered by the one piece that is left of a transfer
abbrev pub IsDelivery : Progress → Note → Type 0
IsDelivery s (Signal q r) = (is_transfer s.command ≡ true) × (s.left ≡ 1)
IsDelivery s _ = ⊤

-- a step of the command d: it was issued and isn't complete, and every command that goes before it is complete
pub record MayStep (before : Trace) (p d : ℕ) (step : Step) (note : Note) : Type 0 where
  pub progress : Progress
  pub has : Has before p d progress
  pub live : progress.done ≡ false
  pub first : (c : ℕ) (s : Progress) → c < d → Has before p c s → precedes s.command progress.command ≡ true → s.done ≡ true
  pub fits : FitsProgress progress step note
  pub quiet : IsQuiet note
  pub delivery : IsDelivery progress note

-- a PUTQLLUC has one piece
abbrev pub IsOnePiece : Command → Type 0
IsOnePiece c = is_queued_line c.kind ≡ true → (is_transfer c ≡ true) × (parts_of c.ea c.size ≡ 1)

-- the processor has issued the commands below c and no others
pub record IsNext (before : Trace) (p c : ℕ) : Type 0 where
  pub below : (b : ℕ) → b < c → (s : Progress) × Has before p b s
  pub above : (b : ℕ) → c ≤ b → status p b before ≡ None

-- the step is one of processor p or of its flow controller
abbrev pub is_spe : ℕ → Step → Bool
is_spe p (Exec q) = q == p
is_spe p (Piece q d e k) = q == p
is_spe p (Elem q d) = q == p
is_spe p (Retire q d) = q == p
is_spe p (Atomic q) = q == p
is_spe p Host = false

-- at the end of the step at place f a tag status of processor p becomes fixed
pub record IsFixed (trace : Trace) (f p : ℕ) : Type 0 where
  pub event : Event
  pub at : slice_get trace f ≡ Some event
  pub is : is_spe p event.step ≡ true
  pub fixed : event.effect.fixed ≡ true

-- a tag status with these groups and this number of commands is the one that was fixed last
pub record IsStatus (before : Trace) (p groups issued : ℕ) : Type 0 where
  pub place : ℕ
  pub fixed : IsFixed before place p
  pub last : (g : ℕ) → place < g → IsFixed before g p → ⊥
  pub number : IsNext (take (place + 1) before) p issued
  pub done : (c : ℕ) (s : Progress) → Has (take (place + 1) before) p c s → IsBitSet groups s.command.tag → s.done ≡ true

-- the step may come after these, as far as the queues are concerned: a step of a command, an issue, and a read of a tag status
pub record QueueMay (before : Trace) (e : Event) : Type 0 where
  pub step : (p d : ℕ) → is_of p d e.step ≡ true → MayStep before p d e.step e.effect.note
  pub issue : (p c : ℕ) (command : Command) → e.step ≡ Exec p → e.effect.note ≡ Issue c command → IsNext before p c × (command.tag < 32) × IsOnePiece command
  pub tags : (p groups issued : ℕ) → e.step ≡ Exec p → e.effect.note ≡ TagRead groups issued → IsStatus before p groups issued

-- each step may come after those before it
abbrev pub IsQueued : Trace → Type 0
IsQueued trace = (i : ℕ) (e : Event) → slice_get trace i ≡ Some e → QueueMay (take i trace) e
