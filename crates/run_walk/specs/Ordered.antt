-- The order of a run's steps.
use Rattle.std.specs.Prelude.{ℕ}
use Rattle.cell_machine.specs.Run.{Ran}
use Rattle.race_order.specs.Rules.{Rule, Ordered}
use Rattle.race_order.specs.Told.{trace_in}

-- step i of the run is ordered before step j
abbrev pub IsOrdered : Ran → ℕ → ℕ → Type 0
IsOrdered m = Ordered Rule (trace_in m)
