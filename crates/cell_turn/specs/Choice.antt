-- What a turn makes of a run.
use Rattle.std.specs.Prelude.{ℕ, List, [], ◌∷◌, ◌++◌, Option, Some, None}
use Rattle.cell_base.specs.declared.steps.Actor.{Actor}
use Rattle.cell_base.specs.declared.steps.Step.{Step}
use Rattle.cell_machine.specs.Opening.{Opening}
use Rattle.cell_machine.specs.Run.{Ran, picked_of, first_of}

-- the machine with this setup and this record
abbrev pub ran : Opening → List Step → Ran
ran setup steps = record { setup = setup; steps = steps }

-- the machine after a step
abbrev pub made : Ran → Step → Ran
made m s = ran m.setup (m.steps ++ s ∷ [])

abbrev pub or_else : Option Step → Option Step → Option Step
or_else None y = y
or_else (Some x) y = Some x

-- what the actor does: its own step for this choice where it has one, and otherwise any that is allowed
abbrev pub chosen : Ran → Actor → ℕ → Option Step
chosen m actor choice = or_else (picked_of m actor choice) (first_of m)
