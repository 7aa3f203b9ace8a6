-- The queue of commands by how far each has come (`Status`), for proofs and laws; the rules that callers see count in the trace (`Commands`).
use Rattle.std.specs.Prelude.{◌≡◌, ℕ, ◌+◌, ◌<◌, ◌⊎◌, true, Some, take}
use Rattle.cell_base.specs.declared.steps.Step.TheVariants.{Exec, Piece, Elem}
use Rattle.mfc_command.specs.Order.{precedes}
use Rattle.cell_machine.specs.declared.effect.Note.TheVariants.{Ack}
use Rattle.race_order.specs.Trace.{Trace, IsStep, Notes}
use Rattle.race_order.specs.declared.progress.Progress.{Progress}
use Rattle.race_order.specs.Status.{status}

-- after these steps command c of processor p has come so far
pub record Has (trace : Trace) (p c : ℕ) (s : Progress) : Type 0 where
  pub is : status p c trace ≡ Some s

-- both were issued, c first, and c goes before d in their queue
pub record Before (trace : Trace) (p c d : ℕ) : Type 0 where
  pub lower : c < d
  pub first : Progress
  pub second : Progress
  pub first_is : Has trace p c first
  pub second_is : Has trace p d second
  pub goes : precedes first.command second.command ≡ true

-- at place i element n of a list is read, the first has number 0
pub record ReadsElement (trace : Trace) (i p c n : ℕ) : Type 0 where
  pub step : IsStep trace i (Elem p c)
  pub progress : Progress
  pub has : Has (take i trace) p c progress
  pub number : progress.read ≡ n

-- at place i element n is read, or a part of it is copied
abbrev pub IsStepOfElement : Trace → ℕ → ℕ → ℕ → ℕ → Type 0
IsStepOfElement trace i p c n = ReadsElement trace i p c n ⊎ ((part : ℕ) × IsStep trace i (Piece p c n part))

-- after the first m steps the list is stalled behind its element n
pub record IsStalled (trace : Trace) (m p c n : ℕ) : Type 0 where
  pub progress : Progress
  pub has : Has (take m trace) p c progress
  pub stalled : progress.stalled ≡ true
  pub number : progress.read ≡ n + 1

-- at place i processor p acknowledges the tag of its list c, which is stalled
pub record Resumes (trace : Trace) (i p c : ℕ) : Type 0 where
  pub progress : Progress
  pub has : Has (take i trace) p c progress
  pub stalled : progress.stalled ≡ true
  pub acknowledges : Notes trace i (Exec p) (Ack progress.command.tag)
