use Rattle.std.proofs.Common.{◌≤◌, length}
use Rattle.race_check.specs.Crowds.{IsTrimmed}
use Rattle.race_check.proofs.crowds.trim.Given as goal

abbrev pub invariant-loop-i : goal.invariant-loop-i
invariant-loop-i l = record { trimmed : IsTrimmed l.new l.initial.crowds.items l.crowds.items; long : l.i ≤ length l.crowds.items }

abbrev pub decreases-loop-i : goal.decreases-loop-i
decreases-loop-i l = l.i
