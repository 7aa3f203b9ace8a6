use Rattle.std.proofs.Common.{◌≡◌, take}
use Rattle.std.specs.List.{flat_map}
use Rattle.hunt_reports.specs.Coverage.{line_coverage}
use Rattle.hunt_reports.proofs.coverage.lines_of.Given as goal

abbrev pub invariant-loop-line : goal.invariant-loop-line
invariant-loop-line l = l.lines.items ≡ flat_map (line_coverage l.places l.executed l.source) (take l.line-index l.source.lines.items)
