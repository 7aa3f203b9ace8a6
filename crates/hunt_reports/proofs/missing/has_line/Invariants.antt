use Rattle.std.proofs.Common.{◌≡◌, length}
use Rattle.hunt_reports.specs.Missing.{has_line}
use Rattle.hunt_reports.proofs.missing.has_line.Given as goal

abbrev pub invariant-loop-line : goal.invariant-loop-line
invariant-loop-line l = has_line l.rest l.line ≡ has_line l.text l.line

abbrev pub decreases-loop-line : goal.decreases-loop-line
decreases-loop-line l = length l.rest
