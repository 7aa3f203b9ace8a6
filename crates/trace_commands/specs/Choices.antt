-- Runs by numbers that choose their steps.
use Rattle.std.specs.Prelude.{◌≡◌, ℕ, ◌+◌, ◌-◌, ◌*◌, ◌/◌, ◌%◌, nat_lt, List, [], length, fold, Option, Some, None, if◌then◌else◌}
use Rattle.std.specs.List.{range_with_len}
use Rattle.std.specs.Option.{option_map_or}
use Rattle.cell_base.specs.declared.steps.Actor.{Actor}
use Rattle.cell_base.specs.declared.steps.Actor.TheVariants.{Spu, Mfc, Host}
use Rattle.cell_base.specs.declared.steps.Step.{Step}
use Rattle.cell_machine.specs.Opening.{Opening}
use Rattle.cell_machine.specs.Run.{Ran, picked_of, first_of, next_of}
use Rattle.cell_trace.specs.Effects.{grown}

-- a machine's start
abbrev pub start : Opening → Ran
start setup = record { setup = setup; steps = [] }

-- the actor of a number, of so many processors: these, their flow controllers, the host
abbrev pub actor_of : ℕ → ℕ → Actor
actor_of spes number = if nat_lt number spes then Spu number else if nat_lt number (2 * spes) then Mfc (number - spes) else Host

-- the number of actors
abbrev pub actors_of : Ran → ℕ
actors_of m = 2 * length m.setup.entries + 1

abbrev pub or_first : Ran → Option Step → Option Step
or_first m None = first_of m
or_first m (Some step) = Some step

-- the step that a number chooses: its remainder the actor, and the rest one of its steps; where the actor has none, the first that is allowed
abbrev pub chosen_in : Ran → ℕ → Option Step
chosen_in m number = or_first m (picked_of m (actor_of (length m.setup.entries) (number % actors_of m)) (number / actors_of m))

-- a run with the step that a number chooses, where one is allowed
abbrev pub with_choice : Ran → ℕ → Ran
with_choice m number = option_map_or (grown m) (chosen_in m number) m

-- a run with the steps that numbers choose, one after the other
abbrev pub with_choices : Ran → List ℕ → Ran
with_choices m numbers = fold with_choice m numbers

-- The actors take turns: the numbers from 0 on choose the steps of this run, one each, until none is allowed or the budget is spent.
pub record TakesTurns (m : Ran) : Type 0 where
  pub chosen : m ≡ with_choices (start m.setup) (range_with_len 0 (length m.steps))
  pub over : (s : Step) → next_of m s ≡ None
