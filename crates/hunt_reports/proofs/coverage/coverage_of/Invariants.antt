use Rattle.std.proofs.Common.{◌≡◌, ◌++◌, drop}
use Rattle.hunt_reports.specs.Coverage.{coverage_from}
use Rattle.hunt_reports.proofs.coverage.coverage_of.Given as goal

abbrev pub invariant-loop-number : goal.invariant-loop-number
invariant-loop-number l =
    l.coverage.items ++ coverage_from l.places l.executed l.number (drop l.number l.places.sources.items) ≡ coverage_from l.places l.executed 0 l.places.sources.items
