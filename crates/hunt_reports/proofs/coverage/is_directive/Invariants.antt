use Rattle.std.proofs.Common.{◌≡◌, fold, length}
use Rattle.hunt_reports.specs.Coverage.{first_after}
use Rattle.hunt_reports.proofs.coverage.is_directive.Given as goal

abbrev pub invariant-loop-b : goal.invariant-loop-b
invariant-loop-b l = fold first_after l.first l.rest ≡ fold first_after 0 l.statement

abbrev pub decreases-loop-b : goal.decreases-loop-b
decreases-loop-b l = length l.rest
