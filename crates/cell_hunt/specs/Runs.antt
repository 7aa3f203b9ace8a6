-- A run by the choices of a seed.
use Rattle.std.specs.Prelude.{◌≡◌, ℕ, List, [], ◌∷◌, ◌++◌}
use Rattle.cell_base.specs.declared.steps.Step.{Step}
use Rattle.cell_machine.specs.Opening.{Opening}
use Rattle.cell_machine.specs.Run.{Ran}
use Rattle.cell_hunt.specs.Ends.{IsOver}
use Rattle.cell_hunt.specs.Strategies.{strategy_of}
use Rattle.cell_hunt.specs.Choices.{Choices, opened, words_of, IsChosen}

-- the run with one more step
abbrev pub with_step : Ran → Step → Ran
with_step m s = record m { steps = m.steps ++ s ∷ [] }

-- These are the steps that the choices make from here on: the one that is chosen, and then those that the choices left make, until the run is over.
pub data Makes : Choices → Ran → List Step → Type 0 where
  End : {c : Choices} {m : Ran} → IsOver m → Makes c m []
  Then : {c left : Choices} {m : Ran} {s : Step} {steps : List Step} → IsChosen m c s left → Makes left (with_step m s) steps → Makes c m (s ∷ steps)

-- run `run` of this seed, from the setup
pub record IsRunOfSeed (opening : Opening) (seed run : ℕ) (m : Ran) : Type 0 where
  pub setup : m.setup ≡ opening
  pub made : Makes (opened (strategy_of run) (words_of seed run)) (record { setup = opening; steps = [] }) m.steps
