-- What is kept of a run as it is made.
use Rattle.std.specs.Prelude.{ℕ, ◌<◌, ◌↔◌, IsTrue, length}
use Rattle.cell_machine.specs.Run.{Ran}
use Rattle.run_permute.specs.declared.settling.Settling.{Settling}
use Rattle.run_permute.specs.Online.{IsSettledAt}
use Rattle.run_permute.specs.Watches.{AreWatches}

-- what is so at each place of a settled run is so at each place of this one
abbrev pub IsSettledSoFar : Ran → Type 0
IsSettledSoFar m = (p k : ℕ) → k < length m.steps → IsSettledAt m p k

-- it tells that, and where it is so it has the watches of the run
pub record Follows (m : Ran) (s : Settling) : Type 0 where
  pub settled : IsTrue s.settled ↔ IsSettledSoFar m
  pub watches : IsTrue s.settled → AreWatches m (length m.steps) s.watches.items
