-- The races of a run.
use Rattle.std.specs.Prelude.{ℕ, List}
use Rattle.cell_machine.specs.Run.{Ran}
use Rattle.race_order.specs.Told.{trace_in}
pub use Rattle.run_walk.specs.Ordered.{IsOrdered}
use Rattle.race_check.specs.declared.access.Access.{Access}
use Rattle.race_check.specs.Races.{accesses_on, RaceBy}

-- what the steps of a run fetch, read and write
abbrev pub accesses_in : Ran → List Access
accesses_in m = accesses_on (trace_in m)

-- the steps i and j of the run race
abbrev pub RaceIn : Ran → ℕ → ℕ → Type 0
RaceIn m = RaceBy (IsOrdered m) (accesses_in m)
