-- A run as functions of the place.
use Rattle.std.specs.Prelude.{◌≡◌, ℕ, ◌<◌, ◌≤◌, length, take, Some, slice_get}
use Rattle.cell_machine.specs.Opening.{opening}
use Rattle.cell_machine.specs.Run.{Ran, replay}
use Rattle.race_order.specs.Told.{trace_in}
use Rattle.reorder_laws.specs.Recorded.{Recorded}

-- r has the steps of the run m, with their effects and the states before them
pub record Records (m : Ran) (r : Recorded) : Type 0 where
  pub size : r.size ≡ length m.steps
  pub step : (j : ℕ) → j < r.size → slice_get m.steps j ≡ Some (r.step j)
  pub start : r.state 0 ≡ opening m.setup
  pub at : (j : ℕ) → j ≤ r.size → replay (opening m.setup) (take j m.steps) ≡ Some (r.state j)
  pub event : (j : ℕ) → j < r.size → slice_get (trace_in m) j ≡ Some (record { step = r.step j; effect = r.effect j })
