-- What the sets of the queue's roles are the past of.
use Rattle.std.specs.Prelude.{◌≡◌, ℕ, ⊤, ◌+◌, ◌*◌, ◌<◌, ◌≤◌, ◌==◌, ◌⊎◌, ◌&&◌, Bool, true, false, length, take}
use Rattle.cell_base.specs.declared.steps.Step.TheVariants.{Elem}
use Rattle.mfc_command.specs.declared.command.Command.{Command}
use Rattle.mfc_command.specs.Order.{is_barrier, is_barred}
use Rattle.order_sets.specs.declared.facts.At.{At}
use Rattle.race_order.specs.Trace.{Trace, IsStep, IsStepOf, IssuesAt}
use Rattle.race_order.specs.declared.progress.Progress.{Progress}
use Rattle.race_order.specs.Status.{elements_done}
use Rattle.race_order.specs.Queue.{Has, Before, IsStepOfElement, IsStalled, Resumes}
use Rattle.race_order.specs.declared.roles.Class.{Class}
use Rattle.race_order.specs.declared.roles.Class.TheVariants.{All, Tag, BarredTag, Barriers}
use Rattle.race_order.specs.declared.roles.QueueRole.{QueueRole}
use Rattle.race_order.specs.declared.roles.QueueRole.TheVariants.{Base, Waits, Complete, Fixed, Stalled}
use Rattle.race_order.specs.Stamps.{elem_of}
use Rattle.race_order.specs.Roles.{Source}
use Rattle.race_order.specs.Premises.{IsFixed}

abbrev pub is_in : Class → Command → Bool
is_in All c = true
is_in (Tag g) c = c.tag == g
is_in (BarredTag g) c = c.tag == g && is_barred c.mark
is_in Barriers c = is_barrier c.kind

-- a step of the command, or an acknowledgement that resumed it
abbrev pub IsPartOf : Trace → ℕ → ℕ → ℕ → Type 0
IsPartOf trace k p c = IsStepOf trace k p c ⊎ Resumes trace k p c

pub record IsComplete (trace : Trace) (p c : ℕ) (s : Progress) : Type 0 where
  pub has : Has trace p c s
  pub done : s.done ≡ true

-- the command c is complete and of the class, and k is part of it
pub record CompleteSource (trace : Trace) (p : ℕ) (class : Class) (k : ℕ) : Type 0 where
  pub command : ℕ
  pub progress : Progress
  pub complete : IsComplete trace p command progress
  pub of : is_in class progress.command ≡ true
  pub part : IsPartOf trace k p command

-- a step of the command whose element is below
pub record IsElementBelow (trace : Trace) (k p d below : ℕ) : Type 0 where
  pub step : IsStepOf trace k p d
  pub low : elem_of step.event.step step.event.effect.note < below

pub data WaitSource (trace : Trace) (p d k : ℕ) : Type 0 where
  Begun : (command : Command) → IssuesAt trace k p d command → WaitSource trace p d k
  -- part of a complete command that goes before d
  Earlier : (c : ℕ) (b : Before trace p c d) → b.first.done ≡ true → IsPartOf trace k p c → WaitSource trace p d k
  -- an acknowledgement that resumed d
  Acked : Resumes trace k p d → WaitSource trace p d k
  -- the reading of an element of d, and the pieces of its elements that are done
  Read : IsStep trace k (Elem p d) → WaitSource trace p d k
  Part : (s : Progress) → Has trace p d s → IsElementBelow trace k p d (elements_done s) → WaitSource trace p d k
  -- every step of d, where it is complete
  Whole : (s : Progress) → IsComplete trace p d s → IsStepOf trace k p d → WaitSource trace p d k

-- k is part of a command of the tag that was complete when a status was fixed
pub record FixedSource (trace : Trace) (p g k : ℕ) : Type 0 where
  pub place : ℕ
  pub fixed : IsFixed trace place p
  pub source : CompleteSource (take (place + 1) trace) p (Tag g) k

-- k is a step of an element after which a list of the tag has stalled
pub record StalledSource (trace : Trace) (p g k : ℕ) : Type 0 where
  pub command : ℕ
  pub element : ℕ
  pub after : ℕ
  pub within : after ≤ length trace
  pub stall : IsStalled trace after p command element
  pub tag : stall.progress.command.tag ≡ g
  pub step : IsStepOfElement trace k p command element

abbrev pub QueueSource : Trace → QueueRole → ℕ → Type 0
QueueSource trace (Base r) k = Source trace r k
QueueSource trace (Waits p d) k = WaitSource trace p d k
QueueSource trace (Complete p class) k = CompleteSource trace p class k
QueueSource trace (Fixed p g) k = FixedSource trace p g k
QueueSource trace (Stalled p g) k = StalledSource trace p g k

-- the sets that are kept: of what waits for a command as long as it isn't complete
abbrev pub IsKept : Trace → QueueRole → Type 0
IsKept trace (Waits p d) = (s : Progress) → Has trace p d s → s.done ≡ false
IsKept trace (Fixed p g) = g < 32
IsKept trace _ = ⊤

-- the step is one of the elements of d that are wholly done, or of the complete command d
pub record IsOwn (n : ℕ) (trace : Trace) (p d : ℕ) (a : At) : Type 0 where
  pub progress : Progress
  pub has : Has trace p d progress
  pub chain : a.chain ≡ 2 * n + p
  pub cmd : a.cmd ≡ d
  pub over : (progress.done ≡ true) ⊎ (a.elem < elements_done progress)

-- what is done of a command stands in its set
pub record HaveOwn (n : ℕ) (sets : QueueRole → At → Bool) (trace : Trace) : Type 0 where
  pub own : (p d : ℕ) (a : At) → IsKept trace (Waits p d) → IsOwn n trace p d a → sets (Waits p d) a ≡ true
