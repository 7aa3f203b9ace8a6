-- The rules on the queue of commands by how far each command has come, step by step: for proofs alone. They say the same as those of Rules.
use Rattle.std.specs.Prelude.{ℕ, ◌+◌, ◌<◌, ◌≤◌, ◌⊎◌, IsBitSet}
use Rattle.cell_base.specs.declared.steps.Step.TheVariants.{Exec, Piece}
use Rattle.cell_machine.specs.declared.effect.Note.TheVariants.{TagRead, StallRead}
use Rattle.race_order.specs.declared.progress.Progress.{Progress}
use Rattle.race_order.specs.Queue.{Has, Before, ReadsElement, IsStepOfElement, IsStalled, Resumes}
use Rattle.race_order.specs.Rules.{Plain}
use Rattle.race_order.specs.Trace.{Trace, IsStep, Notes, IsStepOf}

-- the step at i is ordered before the later one at j by a rule of the queue of commands
pub data Queued (trace : Trace) (i j : ℕ) : Type 0 where
  -- the steps of a command before those of the commands that it goes before
  Queue : (p c d : ℕ) → IsStepOf trace i p c → IsStepOf trace j p d → Before trace p c d → Queued trace i j
  -- an element of a list is read before it is copied
  ElementPiece : (p c n part : ℕ) → ReadsElement trace i p c n → IsStep trace j (Piece p c n part) → Queued trace i j
  -- the steps of an element before the next one is read
  NextElement : (p c n : ℕ) → IsStepOfElement trace i p c n → ReadsElement trace j p c (n + 1) → Queued trace i j
  -- the steps of an element behind which a list has stalled before a stall status that shows its tag
  StallSeen : (p c n m groups : ℕ) → IsStepOfElement trace i p c n → m ≤ j → (stall : IsStalled trace m p c n) → Notes trace j (Exec p) (StallRead groups) → IsBitSet groups stall.progress.command.tag → Queued trace i j
  -- an acknowledgement before the later steps of a list that it resumes
  Resumed : (p c : ℕ) → Resumes trace i p c → IsStepOf trace j p c → Queued trace i j
  -- and before those of the commands that the list goes before
  ResumedEarlier : (p c d : ℕ) → Resumes trace i p c → IsStepOf trace j p d → Before trace p c d → Queued trace i j
  -- the steps of a command before a tag status that shows its group and was fixed after its issue
  TagSeen : (p c groups issued : ℕ) (s : Progress) → IsStepOf trace i p c → Has trace p c s → Notes trace j (Exec p) (TagRead groups issued) → IsBitSet groups s.command.tag → c < issued → Queued trace i j

abbrev pub Rule : Trace → ℕ → ℕ → Type 0
Rule trace i j = Plain trace i j ⊎ Queued trace i j
