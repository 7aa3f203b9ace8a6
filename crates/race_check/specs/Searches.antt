-- What is kept of a run that is searched as it is made.
use Rattle.std.specs.Prelude.{◌≡◌, ℕ, ◌⊎◌, [], ◌∷◌, ◌++◌, length}
use Rattle.cell_base.specs.declared.steps.Step.{Step}
use Rattle.cell_machine.specs.Run.{Ran}
use Rattle.run_walk.specs.Walks.{Stands, walked}
use Rattle.race_check.specs.declared.search.Search.{Search}
use Rattle.race_check.specs.declared.check.Verdict.TheVariants.{Accepted}
use Rattle.race_check.specs.Races.{IsVerdict}
use Rattle.race_check.specs.Reorderings.{EveryReorderingAgrees}
use Rattle.race_check.specs.Shows.{Shows}
use Rattle.race_check.specs.Walks.{IsOrdered, accesses_in, RaceIn}

-- the run that its machine made
abbrev pub run_of : Search → Ran
run_of s = walked s.walk

-- the run with one more step
abbrev pub with_step : Ran → Step → Ran
with_step m step = record m { steps = m.steps ++ step ∷ [] }

-- the run is this one, or already that with the step
abbrev pub HasMadeAtMost : Ran → Step → Ran → Type 0
HasMadeAtMost m step n = (n ≡ m) ⊎ (n ≡ with_step m step)

-- it has the order and the accesses of the run's steps, and its shadow shows what they did: the search can go on
pub record Keeps (s : Search) : Type 0 where
  pub stands : Stands s.walk
  pub accesses : s.accesses.items ≡ accesses_in (run_of s)
  pub shows : Shows (IsOrdered (run_of s)) (accesses_in (run_of s)) s.shadow (length (run_of s).steps)

-- the run has no race, and so is the same in every order that keeps its ordered pairs; the search can go on
pub record IsClear (s : Search) : Type 0 where
  pub accepted : IsVerdict (run_of s) Accepted
  pub agree : EveryReorderingAgrees (run_of s)
  pub none : (i j : ℕ) → RaceIn (run_of s) i j → ⊥
  pub keeps : Keeps s
