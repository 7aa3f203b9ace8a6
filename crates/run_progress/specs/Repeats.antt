-- A step of a run that is made again. Contracts of private functions use it.
use Rattle.std.specs.Prelude.{◌≡◌, [], ◌∷◌, ◌++◌}
use Rattle.cell_machine.specs.Run.{Ran}
use Rattle.run_progress.specs.declared.repeat.Repeated.{Repeated}
use Rattle.run_progress.specs.Made.{Made, made_of}
use Rattle.run_progress.specs.Changes.{changes}

-- this is what is kept of the step
pub record IsOf (x : Made) (r : Repeated) : Type 0 where
  pub step : x.step ≡ r.step
  pub effect : x.effect ≡ r.effect
  pub changes_is : changes x ≡ r.changes

-- a step leads from one run to the other, and this is what is kept of it
pub record IsRepeated (before after : Ran) (r : Repeated) : Type 0 where
  pub made : Made
  pub more : made_of after ≡ made_of before ++ made ∷ []
  pub is : IsOf made r
