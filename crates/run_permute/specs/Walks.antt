-- A run, as a walk over it has come to a place.
use Rattle.std.specs.Prelude.{◌≡◌, ℕ, ◌≤◌, length, Some, IsSomeAnd, slice_get}
use Rattle.cell_base.specs.declared.steps.Step.{Step}
use Rattle.cell_base.specs.declared.steps.Step.TheVariants.{Exec}
use Rattle.cell_machine.specs.Effects.{effect_in}
use Rattle.cell_machine.specs.Spe.{Spe}
use Rattle.cell_machine.specs.Exec.{asks}
use Rattle.cell_machine.specs.Run.{Ran, IsRun, spe_of}
use Rattle.race_order.specs.Told.{trace_in}
use Rattle.run_walk.specs.declared.walk.Walk.{Walk}
use Rattle.run_walk.specs.Walks.{Stands, walked}
use Rattle.run_permute.specs.declared.made.Made.{Made}
use Rattle.reorder_laws.specs.Places.{until, spe_at}

-- a place of a run
pub record Here : Type 0 where
  pub run : Ran
  pub place : ℕ

-- the walk has made the first j steps of the run
pub record IsAt (w : Walk) (m : Ran) (j : ℕ) : Type 0 where
  pub run : IsRun m.setup m.steps
  pub stands : Stands w
  pub made : walked w ≡ until m j
  pub within : j ≤ length m.steps

-- behind the steps of m the step does this, and asks for this operation
pub record IsMadeFrom (m : Ran) (step : Step) (made : Made) : Type 0 where
  pub effect : effect_in m step ≡ Some made.effect
  pub asked : (p : ℕ) → step ≡ Exec p → IsSomeAnd (spe_of m p) (λ P. made.operation ≡ asks P)

-- processor p asks for the operation
pub record IsAsked (m : Ran) (j p : ℕ) (made : Made) : Type 0 where
  pub spe : Spe
  pub at : spe_at m j p ≡ Some spe
  pub asks_is : asks spe ≡ made.operation

-- the step at place j does this, and asks for this operation
pub record IsMade (m : Ran) (j : ℕ) (step : Step) (made : Made) : Type 0 where
  pub event : slice_get (trace_in m) j ≡ Some (record { step = step; effect = made.effect })
  pub asked : (p : ℕ) → step ≡ Exec p → IsAsked m j p made
