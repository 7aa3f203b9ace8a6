-- What a step brings into the sets, and what becomes of them.
use Rattle.std.specs.Prelude.{◌≡◌, ℕ, ◌+◌, ◌*◌, ◌≤◌, ◌||◌, ◌++◌, Bool, false, List, map}
use Rattle.std.specs.List.{list_any}
use Rattle.order_sets.specs.declared.facts.At.{At}
use Rattle.order_sets.specs.Facts.{covers}
use Rattle.order_sets.specs.Stands.{has_at}
use Rattle.cell_base.specs.declared.steps.Step.{Step}
use Rattle.cell_machine.specs.declared.effect.Effect.{Effect}
use Rattle.race_order.specs.Stamps.{event_of}
use Rattle.race_order.specs.Listed.{read_roles_by, write_roles_by}
use Rattle.race_order.specs.declared.boxes.Boxes.{Boxes}
use Rattle.race_order.specs.declared.brought.Brought.{Brought}
use Rattle.race_order.specs.declared.lives.Live.{Live}
use Rattle.race_order.specs.declared.roles.QueueRole.{QueueRole}
use Rattle.race_order.specs.declared.roles.QueueRole.TheVariants.{Base}
use Rattle.cell_base.specs.declared.steps.Step.TheVariants.{Exec}
use Rattle.cell_machine.specs.declared.effect.Note.TheVariants.{Nothing}
use Rattle.race_order.specs.Lives.{moved}
use Rattle.race_order.specs.Ordering.{issued_in, self_roles, issue_list, fix_list, spe_in, own_waits, seen_in}
use Rattle.race_order.specs.Passes.{View, AreMoved, with_into, with_touch, done_any, stall_any, is_over}
use Rattle.race_order.specs.Tables.{FitsChains}

-- the step itself, and what is known before it
abbrev pub has_brought : Brought → At → Bool
has_brought b at = has_at b.known.now at || covers b.fact at

-- there are 1 to 16 processors, and what the step brings is of their chains
pub record IsOfChains (b : Brought) : Type 0 where
  pub some : 1 ≤ b.spes
  pub spes : b.spes ≤ 16
  pub known : b.known.now.chains ≡ 3 * b.spes + 1
  pub fact : FitsChains (3 * b.spes + 1) b.fact

-- the sets that a step looks at, by whether it moves a line whole
abbrev pub looked : Boxes → Bool → Step → Effect → List QueueRole
looked boxes whole step effect = map Base (read_roles_by boxes.puts.items boxes.takes.items whole (event_of step effect)) ++ (own_waits step ++ seen_in step effect.note)

-- the sets that it goes into itself
abbrev pub entered : Boxes → Brought → List QueueRole
entered boxes b = map Base (write_roles_by boxes.puts.items boxes.takes.items b.whole (event_of b.step b.effect.now)) ++ self_roles (issued_in b.step b.effect.now.note)

-- the outstanding commands after the step, and those that are complete by it
abbrev pub nexts : Step → Effect → List Live → List Live
nexts step effect lives = map (λ l. moved l step effect.note) lives

-- what the sets become by a step, in this order: it goes in itself, with what is done of the commands that it touches; what goes before a command that it
-- issues goes into its set; the sets of lists that it stalls go out, then those of commands that are complete by it, then those of a status that it fixes
pub record AreStepped (n : ℕ) (step : Step) (effect : Effect) (after : At → Bool) (lives : List Live) (into : List QueueRole) (old new : View) : Type 0 where
  pub touched : View
  pub issued : View
  pub stalled : View
  pub done : View
  pub is_touched : (r : QueueRole) (a : At) → touched r a ≡ with_touch n step effect.note after lives (with_into into after old) r a
  pub is_issued : AreMoved (λ g. list_any g (issue_list (issued_in step effect.note))) touched issued
  pub is_stalled : AreMoved (λ g. list_any (stall_any g step effect.note) lives) issued stalled
  pub is_done : AreMoved (λ g. list_any (done_any g (nexts step effect lives)) (nexts step effect lives)) stalled done
  pub is_fixed : AreMoved (λ g. list_any g (fix_list effect.fixed (spe_in step))) done new

-- what those become that are not of commands complete by the step
pub record AreKept (n : ℕ) (step : Step) (effect : Effect) (after : At → Bool) (lives : List Live) (into : List QueueRole) (old new : View) : Type 0 where
  pub all : View
  pub stepped : AreStepped n step effect after lives into old all
  pub kept : (r : QueueRole) (a : At) → is_over (nexts step effect lives) r ≡ false → new r a ≡ all r a

-- the step is an instruction of processor p that tells nothing, and so looks at nothing but the instructions before it
pub record IsPlain (step : Step) (effect : Effect) (p : ℕ) : Type 0 where
  pub is : step ≡ Exec p
  pub note : effect.note ≡ Nothing
  pub fixed : effect.fixed ≡ false
