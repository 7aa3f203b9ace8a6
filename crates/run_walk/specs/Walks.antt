-- A run as it is made, with the order of its steps.
use Rattle.std.specs.Prelude.{◌≡◌, ℕ, ◌+◌, length}
use Rattle.cell_machine.specs.Run.{Ran}
use Rattle.race_order.specs.OrderedRuns.{StandsForRun}
use Rattle.run_walk.specs.declared.walk.Walk.{Walk}

-- the run that its machine made
abbrev pub walked : Walk → Ran
walked w = w.machine

-- its order is that of the run
unfoldable pub Stands : Walk → Type 0
Stands w = StandsForRun w.orderer w.machine

-- and this is the last step of the run
pub record IsLast (w : Walk) (step : ℕ) : Type 0 where
  pub stands : Stands w
  pub last : step + 1 ≡ length w.machine.steps
