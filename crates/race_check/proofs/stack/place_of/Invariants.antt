use Rattle.std.proofs.Common.{ℕ, ◌≤◌, ◌<◌, length}
use Rattle.std.specs.Prelude.{slice_index}
use Rattle.race_check.proofs.stack.place_of.Given as goal

-- the steps from the place on are later
abbrev pub invariant-loop-end : goal.invariant-loop-end
invariant-loop-end l = record {
  within : l.end ≤ length l.steps;
  after : (k : ℕ) → l.end ≤ k → k < length l.steps → l.step ≤ slice_index l.steps k;
}

abbrev pub decreases-loop-end : goal.decreases-loop-end
decreases-loop-end l = l.end
