-- What the order of steps looks at of the queued commands, found by counting in the trace.
use Rattle.std.specs.Prelude.{◌≡◌, ℕ, ◌+◌, ◌<◌, ◌≤◌, ◌==◌, ◌&&◌, ◌⊎◌, Bool, true, false, take, count_by}
use Rattle.cell_base.specs.declared.steps.Step.{Step}
use Rattle.cell_base.specs.declared.steps.Step.TheVariants.{Exec, Piece, Elem, Retire, Atomic, Host}
use Rattle.mfc_command.specs.declared.command.Command.{Command}
use Rattle.mfc_command.specs.Order.{precedes}
use Rattle.cell_machine.specs.declared.effect.Note.TheVariants.{Ack, Element}
use Rattle.race_order.specs.Trace.{Trace, IsStep, Notes, IssuesAt}

-- command c of processor p was issued, and asks for this
pub record IsIssued (trace : Trace) (p c : ℕ) (command : Command) : Type 0 where
  pub place : ℕ
  pub issue : IssuesAt trace place p c command

-- both were issued, c first, and c goes before d in their queue
pub record Before (trace : Trace) (p c d : ℕ) : Type 0 where
  pub lower : c < d
  pub first : Command
  pub second : Command
  pub first_is : IsIssued trace p c first
  pub second_is : IsIssued trace p d second
  pub goes : precedes first second ≡ true

-- the step reads an element of the list c of processor p
abbrev pub is_read : ℕ → ℕ → Step → Bool
is_read p c (Elem q d) = (q == p) && (d == c)
is_read p c (Piece q d e k) = false
is_read p c (Retire q d) = false
is_read p c (Exec q) = false
is_read p c (Atomic q) = false
is_read p c Host = false

-- the step is a piece of its element n
abbrev pub is_piece : ℕ → ℕ → ℕ → Step → Bool
is_piece p c n (Piece q d e k) = ((q == p) && (d == c)) && (e == n)
is_piece p c n (Elem q d) = false
is_piece p c n (Retire q d) = false
is_piece p c n (Exec q) = false
is_piece p c n (Atomic q) = false
is_piece p c n Host = false

-- how many elements of the list were read, and how many pieces of its element n have come
abbrev pub reads : ℕ → ℕ → Trace → ℕ
reads p c trace = count_by (λ e. is_read p c e.step) trace

abbrev pub pieces : ℕ → ℕ → ℕ → Trace → ℕ
pieces p c n trace = count_by (λ e. is_piece p c n e.step) trace

-- at place i element n of the list is read: n of them were read before
pub record ReadsElement (trace : Trace) (i p c n : ℕ) : Type 0 where
  pub step : IsStep trace i (Elem p c)
  pub number : reads p c (take i trace) ≡ n

-- at place i element n is read, or a piece of it is copied
abbrev pub IsStepOfElement : Trace → ℕ → ℕ → ℕ → ℕ → Type 0
IsStepOfElement trace i p c n = ReadsElement trace i p c n ⊎ ((part : ℕ) × IsStep trace i (Piece p c n part))

-- element n was read, is flagged, and is done: as many pieces of it have come as it has parts
pub record IsFlagDone (trace : Trace) (p c n : ℕ) : Type 0 where
  pub place : ℕ
  pub read : ReadsElement trace place p c n
  pub number : ℕ
  pub parts : ℕ
  pub flag : Notes trace place (Elem p c) (Element number parts true)
  pub all : parts ≤ pieces p c n trace

-- At place i processor p acknowledges the tag of its list c, and resumes it: the element that was read last is flagged and done,
-- and no acknowledgement of the tag has come since it is done.
pub record Resumes (trace : Trace) (i p c : ℕ) : Type 0 where
  pub command : Command
  pub issued : IsIssued (take i trace) p c command
  pub acknowledges : Notes trace i (Exec p) (Ack command.tag)
  pub element : ℕ
  pub last : reads p c (take i trace) ≡ element + 1
  pub done : IsFlagDone (take i trace) p c element
  pub first : (k : ℕ) → k < i → Notes trace k (Exec p) (Ack command.tag) → IsFlagDone (take k trace) p c element → ⊥
