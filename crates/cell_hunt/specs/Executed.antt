-- The instructions that the processors of a run executed.
use Rattle.std.specs.Prelude.{List, [], ◌∷◌, flat_map}
use Rattle.std.specs.Option.{option_map_or}
use Rattle.cell_base.specs.declared.steps.Step.{Step}
use Rattle.cell_base.specs.declared.steps.Step.TheVariants.{Exec}
use Rattle.cell_machine.specs.declared.effect.Effect.{Effect}
use Rattle.cell_machine.specs.Traces.{Event, trace_of}
use Rattle.cell_machine.specs.Run.{Ran}
use Rattle.cell_hunt.specs.declared.executed.Executed.{Executed}

-- the instruction that a step with this effect executes, if it executes one
abbrev pub executed_by : Step → Effect → List Executed
executed_by (Exec p) e = record { spe = p; at = e.fetch.at } ∷ []
executed_by s e = []

-- one entry for each step that executes an instruction, in the order of the run; every run has a trace
unfoldable pub executed_in : Ran → List Executed
executed_in m = option_map_or (flat_map (λ (x : Event). executed_by x.step x.effect)) (trace_of m) []
