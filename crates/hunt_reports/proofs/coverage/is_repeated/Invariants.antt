use Rattle.std.proofs.Common.{◌≡◌, length}
use Rattle.hunt_reports.specs.Coverage.{is_repeated}
use Rattle.hunt_reports.proofs.coverage.is_repeated.Given as goal

abbrev pub invariant-loop-other : goal.invariant-loop-other
invariant-loop-other l = is_repeated l.rest l.source ≡ is_repeated l.earlier l.source

abbrev pub decreases-loop-other : goal.decreases-loop-other
decreases-loop-other l = length l.rest
