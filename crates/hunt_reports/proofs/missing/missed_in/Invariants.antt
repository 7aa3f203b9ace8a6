use Rattle.std.proofs.Common.{◌≡◌, take}
use Rattle.hunt_reports.specs.Missing.{missed_in}
use Rattle.hunt_reports.specs.Lists.{bytes_in}
use Rattle.hunt_reports.proofs.missing.missed_in.Given as goal

abbrev pub invariant-loop-line : goal.invariant-loop-line
invariant-loop-line l = bytes_in l.missed.items ≡ missed_in l.text (bytes_in (take l.line-index l.expected))
