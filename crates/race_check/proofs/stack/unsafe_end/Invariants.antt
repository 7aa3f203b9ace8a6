use Rattle.std.proofs.Common.{ℕ, ◌≤◌, ◌<◌, length}
use Rattle.std.specs.Prelude.{slice_index}
use Rattle.run_walk.specs.Ordered.{IsOrdered}
use Rattle.run_walk.specs.Walks.{walked}
use Rattle.race_check.specs.Crowds.{IsSafe}
use Rattle.race_check.proofs.stack.unsafe_end.Given as goal

-- the steps from the place on are safe
abbrev pub invariant-loop-end : goal.invariant-loop-end
invariant-loop-end l = record {
  within : l.end ≤ length l.steps;
  safe : (k : ℕ) → l.end ≤ k → k < length l.steps → IsSafe (IsOrdered (walked l.walk)) (slice_index l.steps k) l.last;
}

abbrev pub decreases-loop-end : goal.decreases-loop-end
decreases-loop-end l = l.end
