-- What a step has to change: the sets of the commands that it touches.
use Rattle.std.specs.Prelude.{◌≡◌, ℕ, ◌<◌, ◌⊎◌, ◌↔◌, Bool, true, ◌&&◌, ◌||◌, [], ◌∷◌, ◌++◌}
use Rattle.order_sets.specs.declared.facts.At.{At}
use Rattle.mfc_command.specs.declared.command.Command.{Command}
use Rattle.race_order.specs.Trace.{Event, Trace, is_of}
use Rattle.race_order.specs.Queue.{Before}
use Rattle.race_order.specs.declared.roles.Role.{Role}
use Rattle.race_order.specs.Roles.{write_roles, is_among}
use Rattle.race_order.specs.declared.roles.Class.{Class}
use Rattle.race_order.specs.declared.roles.Class.TheVariants.{Tag}
use Rattle.race_order.specs.declared.roles.QueueRole.{QueueRole}
use Rattle.race_order.specs.declared.roles.QueueRole.TheVariants.{Base, Waits, Complete, Fixed, Stalled}
use Rattle.race_order.specs.Sources.{is_in, IsKept, IsOwn}
use Rattle.race_order.proofs.Nexts.{Completes, Stalls, Fixes, IssuesNow, AcksNow, GoesInto, GoesAhead}

-- the step is one of the command, issues it or resumes it
abbrev pub Touches : Trace → Event → ℕ → ℕ → Type 0
Touches trace e p c = (is_of p c e.step ≡ true) ⊎ (((command : Command) × IssuesNow e p c command) ⊎ AcksNow trace e p c)

pub data WaitsLocal (n : ℕ) (sets next : QueueRole → At → Bool) (trace : Trace) (e : Event) (brought : At → Bool) (p d : ℕ) (a : At) : Type 0 where
  Stays : sets (Waits p d) a ≡ true → WaitsLocal n sets next trace e brought p d a
  Itself : GoesInto trace e p d → brought a ≡ true → WaitsLocal n sets next trace e brought p d a
  AtIssue : (command : Command) (class : Class) → IssuesNow e p d command → GoesAhead command class → sets (Complete p class) a ≡ true → WaitsLocal n sets next trace e brought p d a
  FromEarlier : (c : ℕ) → Touches trace e p c → Completes trace e p c → Before (trace ++ (e ∷ [])) p c d → next (Waits p c) a ≡ true → WaitsLocal n sets next trace e brought p d a
  Own : Touches trace e p d → IsOwn n (trace ++ (e ∷ [])) p d a → WaitsLocal n sets next trace e brought p d a

pub data CompleteLocal (sets next : QueueRole → At → Bool) (trace : Trace) (e : Event) (p : ℕ) (class : Class) (a : At) : Type 0 where
  WasComplete : sets (Complete p class) a ≡ true → CompleteLocal sets next trace e p class a
  IsNow : (c : ℕ) → Touches trace e p c → (x : Completes trace e p c) → is_in class x.progress.command ≡ true → next (Waits p c) a ≡ true → CompleteLocal sets next trace e p class a

pub data FixedLocal (sets next : QueueRole → At → Bool) (e : Event) (p g : ℕ) (a : At) : Type 0 where
  WasFixed : sets (Fixed p g) a ≡ true → FixedLocal sets next e p g a
  FixedNow : Fixes e p → next (Complete p (Tag g)) a ≡ true → FixedLocal sets next e p g a

pub data StalledLocal (sets next : QueueRole → At → Bool) (trace : Trace) (e : Event) (p g : ℕ) (a : At) : Type 0 where
  WasStalled : sets (Stalled p g) a ≡ true → StalledLocal sets next trace e p g a
  StalledNow : (c : ℕ) → Touches trace e p c → (x : Stalls trace e p c) → x.progress.command.tag ≡ g → next (Waits p c) a ≡ true → StalledLocal sets next trace e p g a

-- the sets after the step, where only those of touched commands changed
pub record AreLocal (n : ℕ) (sets next : QueueRole → At → Bool) (trace : Trace) (e : Event) (brought : At → Bool) : Type 0 where
  pub base : (r : Role) (a : At) → next (Base r) a ≡ (sets (Base r) a || (is_among r (write_roles trace e) && brought a))
  pub waits : (p d : ℕ) (a : At) → IsKept trace (Waits p d) → (next (Waits p d) a ≡ true) ↔ WaitsLocal n sets next trace e brought p d a
  pub complete : (p : ℕ) (class : Class) (a : At) → (next (Complete p class) a ≡ true) ↔ CompleteLocal sets next trace e p class a
  pub fixed : (p g : ℕ) (a : At) → g < 32 → (next (Fixed p g) a ≡ true) ↔ FixedLocal sets next e p g a
  pub stalled : (p g : ℕ) (a : At) → (next (Stalled p g) a ≡ true) ↔ StalledLocal sets next trace e p g a
