use Rattle.std.proofs.Common.{ℕ, ◌<◌}
use Rattle.race_check.specs.Walks.{IsOrdered}
use Rattle.race_check.specs.Races.{RaceBy}
use Rattle.race_check.proofs.search.first_race.Given as goal

abbrev pub invariant-loop-i : goal.invariant-loop-i
invariant-loop-i l = (k : ℕ) → k < l.i → RaceBy (IsOrdered l.walk.machine) l.accesses k l.last → ⊥
