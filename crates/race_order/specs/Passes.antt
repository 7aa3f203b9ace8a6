-- Which sets go into which others at a step.
use Rattle.std.specs.Prelude.{◌≡◌, ℕ, ◌==◌, nat_lt, ◌&&◌, ◌||◌, not, Bool, true, false, List, [], ◌∷◌, ◌++◌}
use Rattle.std.specs.List.{list_any}
use Rattle.cell_base.specs.declared.steps.Step.{Step}
use Rattle.mfc_command.specs.declared.command.Mark.{Mark}
use Rattle.mfc_command.specs.Order.{is_barrier, is_barred, is_plain, precedes}
use Rattle.mfc_command.specs.declared.command.Command.{Command}
use Rattle.cell_machine.specs.declared.effect.Note.{Note}
use Rattle.race_order.specs.declared.lives.Live.{Live}
use Rattle.race_order.specs.declared.moves.Move.{Move}
use Rattle.race_order.specs.declared.roles.Class.{Class}
use Rattle.race_order.specs.declared.roles.Class.TheVariants.{All, Tag, BarredTag, Barriers}
use Rattle.race_order.specs.declared.roles.QueueRole.{QueueRole}
use Rattle.race_order.specs.declared.roles.QueueRole.TheVariants.{Waits, Complete, Stalled}
use Rattle.order_sets.specs.declared.facts.At.{At}
use Rattle.race_order.specs.Tables.{same_role, is_among}
use Rattle.race_order.specs.Lives.{moved, touch_brings}

-- it has a fence or a barrier
abbrev pub is_marked : Mark → Bool
is_marked m = not (is_plain m)

abbrev pub when : Bool → Class → List Class
when true class = class ∷ []
when false class = []

-- the classes of which every command goes before d
abbrev pub classes_ahead : Command → List Class
classes_ahead d = when (is_barrier d.kind) All ++ (when (is_marked d.mark) (Tag d.tag) ++ (BarredTag d.tag ∷ Barriers ∷ []))

-- the classes that c is in
abbrev pub classes_of : Command → List Class
classes_of c = All ∷ Tag c.tag ∷ (when (is_barred c.mark) (BarredTag c.tag) ++ when (is_barrier c.kind) Barriers)

abbrev pub into_class : Live → Class → Move
into_class l class = record { from = Waits l.spe l.cmd; to = Complete l.spe class }

abbrev pub into_waits : Live → Live → Move
into_waits c d = record { from = Waits c.spe c.cmd; to = Waits d.spe d.cmd }

abbrev pub from_class : ℕ → ℕ → Class → Move
from_class p d class = record { from = Complete p class; to = Waits p d }

abbrev pub into_stalled : Live → Move
into_stalled l = record { from = Waits l.spe l.cmd; to = Stalled l.spe l.progress.command.tag }

abbrev pub is_ahead : Live → Live → Bool
is_ahead c d = c.spe == d.spe && (nat_lt c.cmd d.cmd && precedes c.progress.command d.progress.command)

-- some move of a command that is complete now, of those after the step, passes the test
abbrev pub done_any : (Move → Bool) → List Live → Live → Bool
done_any g next c =
    c.progress.done && (list_any (λ class. g (into_class c class)) (classes_of c.progress.command) || list_any (λ d. is_ahead c d && g (into_waits c d)) next)

-- some move of a list that is stalled by the step
abbrev pub stall_any : (Move → Bool) → Step → Note → Live → Bool
stall_any g step note l = (not l.progress.stalled && (moved l step note).progress.stalled) && g (into_stalled l)

abbrev pub View : Type 0
View = QueueRole → At → Bool

-- the step goes into these sets
abbrev pub with_into : List QueueRole → (At → Bool) → View → View
with_into into after t r a = t r a || (is_among r into && after a)

-- what is done of the touched commands
abbrev pub with_touch : ℕ → Step → Note → (At → Bool) → List Live → View → View
with_touch n step note after lives t r a = t r a || list_any (touch_brings n step note after r a) lives

abbrev pub brings : View → QueueRole → At → Move → Bool
brings t r a m = same_role m.to r && t m.from a

-- the sets t become u by moves, of which one passes a test where `some` says so: u has what t had and what they bring of that,
-- and nothing else but what they bring of u itself
pub record AreMoved (some : (Move → Bool) → Bool) (t u : View) : Type 0 where
  pub has : (r : QueueRole) (a : At) → (t r a || some (brings t r a)) ≡ true → u r a ≡ true
  pub only : (r : QueueRole) (a : At) → u r a ≡ true → (t r a || some (brings u r a)) ≡ true

-- the command is complete, and what its steps wait for is looked at no more
abbrev pub is_over_as : QueueRole → Live → Bool
is_over_as (Waits p d) l = l.progress.done && (l.spe == p && l.cmd == d)
is_over_as _ l = false

abbrev pub is_over : List Live → QueueRole → Bool
is_over next r = list_any (is_over_as r) next
