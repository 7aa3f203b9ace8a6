-- How far a run has come by its choices.
use Rattle.std.specs.Prelude.{◌≡◌, List, ◌++◌}
use Rattle.cell_base.specs.declared.steps.Step.{Step}
use Rattle.cell_machine.specs.Run.{Ran}
use Rattle.cell_hunt.specs.Choices.{Choices}
use Rattle.cell_hunt.specs.Runs.{Makes}

-- the run with more steps
abbrev pub with_steps : Ran → List Step → Ran
with_steps m steps = record m { steps = m.steps ++ steps }

-- by the first choices the run went on to here, where these are left
pub record Continues (first : Choices) (start : Ran) (c : Choices) (m : Ran) : Type 0 where
  pub made : List Step
  pub all : m ≡ with_steps start made
  pub goes : (rest : List Step) → Makes c m rest → Makes first start (made ++ rest)

-- by these choices the run went on to its end
pub record Goes (c : Choices) (start m : Ran) : Type 0 where
  pub made : List Step
  pub all : m ≡ with_steps start made
  pub goes : Makes c start made
