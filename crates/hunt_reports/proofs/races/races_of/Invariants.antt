use Rattle.std.proofs.Common.{◌≡◌, take}
use Rattle.hunt_reports.specs.Races.{races_told, race_findings, leaves_out}
use Rattle.hunt_reports.specs.Lists.{bytes_in}
use Rattle.hunt_reports.proofs.races.races_of.Given as goal

abbrev pub invariant-loop-racing : goal.invariant-loop-racing
invariant-loop-racing l = record {
  told : l.found.races.items ≡ races_told l.places (bytes_in l.passed) (take l.racing-index l.races);
  findings : l.found.findings.items ≡ race_findings l.places (bytes_in l.passed) (take l.racing-index l.races);
  left : l.found.leaves_out ≡ leaves_out l.places (bytes_in l.passed) (take l.racing-index l.races);
}
