use Rattle.std.proofs.Common.{ℕ, ◌<◌, ◌≤◌, length, get_or}
use Rattle.reorder_laws.specs.OrderedLaws.{IsOrdered}
use Rattle.run_permute.proofs.kept.unknown.Given as goal

abbrev pub ghost-is_before : goal.ghost-is_before
ghost-is_before g a = g.here

abbrev pub invariant-loop-left : goal.invariant-loop-left
invariant-loop-left g l =
    record {
      few : l.left ≤ length l.steps;
      known : (k : ℕ) → l.left ≤ k → k < length l.steps → IsOrdered g.here.run (get_or l.steps k 0) g.here.place;
    }

abbrev pub decreases-loop-left : goal.decreases-loop-left
decreases-loop-left g l = l.left
