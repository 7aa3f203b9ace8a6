-- The steps of a run, each with the states before it and after it.
use Rattle.std.specs.Prelude.{List, [], ◌∷◌, Option}
use Rattle.std.specs.Option.{option_and_then, option_map, option_map_or}
use Rattle.cell_base.specs.declared.steps.Step.{Step}
use Rattle.cell_machine.specs.declared.effect.Effect.{Effect}
use Rattle.cell_machine.specs.State.{State}
use Rattle.cell_machine.specs.Next.{next}
use Rattle.cell_machine.specs.Opening.{opening}
use Rattle.cell_machine.specs.Run.{Ran}
use Rattle.cell_machine.specs.Effects.{effect_of}
use Rattle.cell_machine.specs.Traces.{Event}

-- a step that was made
pub record Made : Type 0 where
  pub before : State
  pub step : Step
  pub effect : Effect
  pub after : State

-- the step as it is made in M, None if it isn't allowed
abbrev pub made_in : State → Step → Option Made
made_in M s = option_and_then (λ e. option_map (λ N. record { before = M; step = s; effect = e; after = N }) (next M s)) (effect_of M s)

-- the steps from M on, each in the state that the earlier ones leave
abbrev pub made_from : State → List Step → List Made
made_from M [] = []
made_from M (s ∷ steps) = option_map_or (λ x. x ∷ made_from x.after steps) (made_in M s) []

-- the steps of a run
unfoldable pub made_of : Ran → List Made
made_of m = made_from (opening m.setup) m.steps

-- the event of the step in the run's trace
abbrev pub event_of : Made → Event
event_of x = record { step = x.step; effect = x.effect }
