use Rattle.std.proofs.Common.{◌≡◌, false, take}
use Rattle.hunt_tally.specs.Tallies.{has}
use Rattle.hunt_reports.proofs.races.has_key.Given as goal

abbrev pub invariant-loop-telling : goal.invariant-loop-telling
invariant-loop-telling l = has l.key (take l.telling-index l.told) ≡ false
