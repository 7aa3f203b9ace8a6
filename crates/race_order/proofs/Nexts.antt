-- What the sets become by a step.
use Rattle.std.specs.Prelude.{◌≡◌, ℕ, ◌<◌, ◌⊎◌, ◌↔◌, Bool, true, false, ◌&&◌, ◌||◌, [], ◌∷◌, ◌++◌}
use Rattle.order_sets.specs.declared.facts.At.{At}
use Rattle.cell_base.specs.declared.steps.Step.TheVariants.{Exec, Elem}
use Rattle.mfc_command.specs.declared.command.Kind.TheVariants.{Barrier}
use Rattle.mfc_command.specs.declared.command.Mark.TheVariants.{Fenced, Barred}
use Rattle.mfc_command.specs.declared.command.Command.{Command}
use Rattle.cell_machine.specs.declared.effect.Note.{Note}
use Rattle.cell_machine.specs.declared.effect.Note.TheVariants.{Issue, Ack, Signal}
use Rattle.race_order.specs.Trace.{Event, Trace, is_of}
use Rattle.race_order.specs.Lines.{moves_line}
use Rattle.race_order.specs.declared.progress.Progress.{Progress}
use Rattle.race_order.specs.Queue.{Has, Before}
use Rattle.race_order.specs.declared.roles.Role.{Role}
use Rattle.race_order.specs.Roles.{write_roles, is_among}
use Rattle.race_order.specs.Premises.{is_spe}
use Rattle.race_order.specs.declared.roles.Class.{Class}
use Rattle.race_order.specs.declared.roles.Class.TheVariants.{All, Tag, BarredTag, Barriers}
use Rattle.race_order.specs.declared.roles.QueueRole.{QueueRole}
use Rattle.race_order.specs.declared.roles.QueueRole.TheVariants.{Base, Waits, Complete, Fixed, Stalled}
use Rattle.race_order.specs.Sources.{is_in, IsComplete, IsKept, IsOwn}

-- by the step e after trace the command becomes complete
pub record Completes (trace : Trace) (e : Event) (p c : ℕ) : Type 0 where
  pub progress : Progress
  pub now : IsComplete (trace ++ (e ∷ [])) p c progress
  pub before : (s : Progress) → Has trace p c s → s.done ≡ false

-- or stalled
pub record Stalls (trace : Trace) (e : Event) (p c : ℕ) : Type 0 where
  pub progress : Progress
  pub has : Has (trace ++ (e ∷ [])) p c progress
  pub stalled : progress.stalled ≡ true
  pub before : (s : Progress) → Has trace p c s → s.stalled ≡ false

-- a tag status of the processor becomes fixed
pub record Fixes (e : Event) (p : ℕ) : Type 0 where
  pub is : is_spe p e.step ≡ true
  pub fixed : e.effect.fixed ≡ true

pub record IssuesNow (e : Event) (p d : ℕ) (command : Command) : Type 0 where
  pub is : e.step ≡ Exec p
  pub notes : e.effect.note ≡ Issue d command

pub record AcksNow (trace : Trace) (e : Event) (p d : ℕ) : Type 0 where
  pub progress : Progress
  pub has : Has trace p d progress
  pub stalled : progress.stalled ≡ true
  pub is : e.step ≡ Exec p
  pub notes : e.effect.note ≡ Ack progress.command.tag

abbrev pub is_delivery : Note → Bool
is_delivery (Signal q r) = true
is_delivery _ = false

-- the step moves a line whole or delivers a signal
abbrev pub looks_beyond : Trace → Event → Bool
looks_beyond before e = moves_line before e.step || is_delivery e.effect.note

-- the step is one of d, and moves a line whole or delivers a signal
pub record MovesNow (trace : Trace) (e : Event) (p d : ℕ) : Type 0 where
  pub is : is_of p d e.step ≡ true
  pub moves : looks_beyond trace e ≡ true

-- the step goes itself into what waits for d: it issues d, reads an element of d, resumes d, moves the line of d or delivers the signal of d
abbrev pub GoesInto : Trace → Event → ℕ → ℕ → Type 0
GoesInto trace e p d = ((command : Command) × IssuesNow e p d command) ⊎ ((e.step ≡ Elem p d) ⊎ (AcksNow trace e p d ⊎ MovesNow trace e p d))

-- every command of the class goes before d
pub data GoesAhead (d : Command) : Class → Type 0 where
  OfAll : d.kind ≡ Barrier → GoesAhead d All
  OfTag : (d.mark ≡ Fenced) ⊎ (d.mark ≡ Barred) → GoesAhead d (Tag d.tag)
  OfBarred : GoesAhead d (BarredTag d.tag)
  OfBarriers : GoesAhead d Barriers

pub data WaitsNext (n : ℕ) (sets next : QueueRole → At → Bool) (trace : Trace) (e : Event) (brought : At → Bool) (p d : ℕ) (a : At) : Type 0 where
  Stays : sets (Waits p d) a ≡ true → WaitsNext n sets next trace e brought p d a
  Itself : GoesInto trace e p d → brought a ≡ true → WaitsNext n sets next trace e brought p d a
  AtIssue : (command : Command) (class : Class) → IssuesNow e p d command → GoesAhead command class → sets (Complete p class) a ≡ true → WaitsNext n sets next trace e brought p d a
  FromEarlier : (c : ℕ) → Completes trace e p c → Before (trace ++ (e ∷ [])) p c d → next (Waits p c) a ≡ true → WaitsNext n sets next trace e brought p d a
  Own : IsOwn n (trace ++ (e ∷ [])) p d a → WaitsNext n sets next trace e brought p d a

pub data CompleteNext (sets next : QueueRole → At → Bool) (trace : Trace) (e : Event) (p : ℕ) (class : Class) (a : At) : Type 0 where
  WasComplete : sets (Complete p class) a ≡ true → CompleteNext sets next trace e p class a
  IsNow : (c : ℕ) (x : Completes trace e p c) → is_in class x.progress.command ≡ true → next (Waits p c) a ≡ true → CompleteNext sets next trace e p class a

pub data FixedNext (sets next : QueueRole → At → Bool) (e : Event) (p g : ℕ) (a : At) : Type 0 where
  WasFixed : sets (Fixed p g) a ≡ true → FixedNext sets next e p g a
  FixedNow : Fixes e p → next (Complete p (Tag g)) a ≡ true → FixedNext sets next e p g a

pub data StalledNext (sets next : QueueRole → At → Bool) (trace : Trace) (e : Event) (p g : ℕ) (a : At) : Type 0 where
  WasStalled : sets (Stalled p g) a ≡ true → StalledNext sets next trace e p g a
  StalledNow : (c : ℕ) (x : Stalls trace e p c) → x.progress.command.tag ≡ g → next (Waits p c) a ≡ true → StalledNext sets next trace e p g a

-- the sets after the step, which brings those steps
pub record AreNext (n : ℕ) (sets next : QueueRole → At → Bool) (trace : Trace) (e : Event) (brought : At → Bool) : Type 0 where
  pub base : (r : Role) (a : At) → next (Base r) a ≡ (sets (Base r) a || (is_among r (write_roles trace e) && brought a))
  pub waits : (p d : ℕ) (a : At) → IsKept trace (Waits p d) → (next (Waits p d) a ≡ true) ↔ WaitsNext n sets next trace e brought p d a
  pub complete : (p : ℕ) (class : Class) (a : At) → (next (Complete p class) a ≡ true) ↔ CompleteNext sets next trace e p class a
  pub fixed : (p g : ℕ) (a : At) → g < 32 → (next (Fixed p g) a ≡ true) ↔ FixedNext sets next e p g a
  pub stalled : (p g : ℕ) (a : At) → (next (Stalled p g) a ≡ true) ↔ StalledNext sets next trace e p g a
