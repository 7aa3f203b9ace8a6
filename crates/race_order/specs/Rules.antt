-- Which steps are ordered directly.
use Rattle.std.specs.Prelude.{ℕ, ◌+◌, ◌<◌, ◌⊎◌, IsBitSet, take}
use Rattle.cell_base.specs.declared.steps.Step.TheVariants.{Exec, Piece, Atomic, Elem, Host}
use Rattle.mfc_command.specs.declared.command.Command.{Command}
use Rattle.cell_machine.specs.declared.effect.Note.TheVariants.{AtomicIssue, TagRead, StallRead, AtomicRead, Ended, Awaited}
use Rattle.race_order.specs.Commands.{IsIssued, Before, ReadsElement, IsStepOfElement, IsFlagDone, Resumes}
use Rattle.race_order.specs.Trace.{Trace, IsStep, Notes, IssuesAt, IsStepOf, PutsNth, TakesNth, mailbox_size, OnSignal}
use Rattle.race_order.specs.Lines.{OnLine}

-- the step at i is ordered before the later one at j by a rule that looks at no queue
pub data Plain (trace : Trace) (i j : ℕ) : Type 0 where
  -- the instructions of a processor, in their order
  Program : (p : ℕ) → IsStep trace i (Exec p) → IsStep trace j (Exec p) → Plain trace i j
  -- the actions of the host, in their order
  Script : IsStep trace i Host → IsStep trace j Host → Plain trace i j
  -- the issue of a command before its steps
  Issued : (p c : ℕ) (command : Command) → IssuesAt trace i p c command → IsStepOf trace j p c → Plain trace i j
  -- the issue of an atomic command before its step, which is the next atomic one of the processor
  AtomicIssued : (p : ℕ) → Notes trace i (Exec p) AtomicIssue → IsStep trace j (Atomic p) → ((k : ℕ) → i < k → k < j → IsStep trace k (Atomic p) → ⊥) → Plain trace i j
  -- an atomic step before every later issue of an atomic command by its processor
  NextAtomic : (p : ℕ) → IsStep trace i (Atomic p) → Notes trace j (Exec p) AtomicIssue → Plain trace i j
  -- and before every later read of the atomic status
  AtomicSeen : (p : ℕ) → IsStep trace i (Atomic p) → Notes trace j (Exec p) AtomicRead → Plain trace i j
  -- the steps on a line of memory that move it whole, in their order
  Line : (address : ℕ) → OnLine trace i address → OnLine trace j address → Plain trace i j
  -- a value is put into a mailbox before it is taken
  Passed : (q m k : ℕ) → PutsNth trace i q m k → TakesNth trace j q m k → Plain trace i j
  -- and is taken before another one is put into its place
  PlaceFree : (q m k : ℕ) → TakesNth trace i q m k → PutsNth trace j q m (k + mailbox_size m) → Plain trace i j
  -- the deliveries to a signal register and the reads of it, in their order
  Signalled : (q r : ℕ) → OnSignal trace i q r → OnSignal trace j q r → Plain trace i j
  -- the step with which a processor ceases to run before the host finds that it doesn't
  Finished : (p : ℕ) → Notes trace i (Exec p) Ended ⊎ ((c : ℕ) × Notes trace i (Elem p c) Ended) → Notes trace j Host (Awaited p) → Plain trace i j

-- the same by a rule of the queue of commands
pub data Queued (trace : Trace) (i j : ℕ) : Type 0 where
  -- the steps of a command before those of the commands that it goes before
  Queue : (p c d : ℕ) → IsStepOf trace i p c → IsStepOf trace j p d → Before trace p c d → Queued trace i j
  -- an element of a list is read before it is copied
  ElementPiece : (p c n part : ℕ) → ReadsElement trace i p c n → IsStep trace j (Piece p c n part) → Queued trace i j
  -- the steps of an element before the next one is read
  NextElement : (p c n : ℕ) → IsStepOfElement trace i p c n → ReadsElement trace j p c (n + 1) → Queued trace i j
  -- the steps of a flagged element that is done before a stall status that shows the tag of its list
  StallSeen : (p c n groups : ℕ) (command : Command) → IsStepOfElement trace i p c n → IsFlagDone (take j trace) p c n → IsIssued trace p c command → Notes trace j (Exec p) (StallRead groups) → IsBitSet groups command.tag → Queued trace i j
  -- an acknowledgement before the later steps of a list that it resumes
  Resumed : (p c : ℕ) → Resumes trace i p c → IsStepOf trace j p c → Queued trace i j
  -- and before those of the commands that the list goes before
  ResumedEarlier : (p c d : ℕ) → Resumes trace i p c → IsStepOf trace j p d → Before trace p c d → Queued trace i j
  -- the steps of a command before a tag status that shows its group and was fixed after its issue
  TagSeen : (p c groups issued : ℕ) (command : Command) → IsStepOf trace i p c → IsIssued trace p c command → Notes trace j (Exec p) (TagRead groups issued) → IsBitSet groups command.tag → c < issued → Queued trace i j

abbrev pub Rule : Trace → ℕ → ℕ → Type 0
Rule trace i j = Plain trace i j ⊎ Queued trace i j

-- the edge between two places by some rules; it looks at the steps up to the later one alone
pub record Edge (Rule : Trace → ℕ → ℕ → Type 0) (trace : Trace) (i j : ℕ) : Type 0 where
  pub below : i < j
  pub rule : Rule (take (j + 1) trace) i j

-- the transitive closure of the edges
pub data Ordered (Rule : Trace → ℕ → ℕ → Type 0) (trace : Trace) : ℕ → ℕ → Type 0 where
  One : {i j : ℕ} → Edge Rule trace i j → Ordered Rule trace i j
  Then : {i k j : ℕ} → Ordered Rule trace i k → Edge Rule trace k j → Ordered Rule trace i j
