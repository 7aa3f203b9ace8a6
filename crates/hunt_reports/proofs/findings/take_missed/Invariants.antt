use Rattle.std.proofs.Common.{◌≡◌, ◌++◌, map, take}
use Rattle.hunt_reports.specs.Findings.{missed_told}
use Rattle.hunt_reports.specs.Lists.{bytes_in}
use Rattle.hunt_reports.proofs.findings.take_missed.Given as goal

abbrev pub invariant-loop-line : goal.invariant-loop-line
invariant-loop-line l = l.findings.items ≡ l.fn.findings.items ++ map missed_told (bytes_in (take l.line-index l.missed))
