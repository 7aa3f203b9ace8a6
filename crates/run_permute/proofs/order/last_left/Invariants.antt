use Rattle.std.proofs.Common.{◌≡◌, ℕ, ◌≤◌, length, Some}
use Rattle.std.specs.Prelude.{slice_get}
use Rattle.run_permute.specs.Choices.{IsTaken}
use Rattle.run_permute.proofs.order.last_left.Given as goal

abbrev pub invariant-loop-left : goal.invariant-loop-left
invariant-loop-left l = record { within : l.left ≤ length l.steps; after : (k i : ℕ) → l.left ≤ k → slice_get l.steps k ≡ Some i → IsTaken l.taken i }

abbrev pub decreases-loop-left : goal.decreases-loop-left
decreases-loop-left l = l.left
