-- The one element of a list that passes a test, and what one command that a step touches does.
use Rattle.std.specs.Prelude.{◌≡◌, ℕ, ◌+◌, ◌<◌, Bool, true, false, List, length, take, drop, slice_index_or}
use Rattle.std.specs.List.{list_any}
use Rattle.order_sets.specs.declared.facts.At.{At}
use Rattle.cell_base.specs.declared.steps.Step.{Step}
use Rattle.cell_machine.specs.declared.effect.Note.{Note}
use Rattle.race_order.specs.declared.lives.Live.{Live}
use Rattle.race_order.specs.declared.roles.QueueRole.{QueueRole}
use Rattle.race_order.specs.Ordering.{issued_in, issue_list}
use Rattle.race_order.specs.Passes.{View, AreMoved, with_touch, stall_any}

-- the element at i passes, and no other
pub record IsSole {X : Type 0} (p : X → Bool) (xs : List X) (i : ℕ) : Type 0 where
  pub inside : i < length xs
  pub here : (d : X) → p (slice_index_or xs i d) ≡ true
  pub before : list_any p (take i xs) ≡ false
  pub behind : list_any p (drop (i + 1) xs) ≡ false

-- what the sets become by the commands that the step touches: what is done of these goes in, then what goes before a command that it issues, and then
-- the sets of lists that it stalls go out
pub record ArePutOn (n : ℕ) (step : Step) (note : Note) (after : At → Bool) (lives : List Live) (old new : View) : Type 0 where
  pub touched : View
  pub issued : View
  pub is_touched : (r : QueueRole) (a : At) → touched r a ≡ with_touch n step note after lives old r a
  pub is_issued : AreMoved (λ g. list_any g (issue_list (issued_in step note))) touched issued
  pub is_stalled : AreMoved (λ g. list_any (stall_any g step note) lives) issued new
