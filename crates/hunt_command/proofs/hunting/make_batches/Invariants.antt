use Rattle.std.proofs.Common.{◌≤◌, ◌-◌}
use Rattle.hunt_command.specs.Words.{most_made}
use Rattle.hunt_command.specs.Hunts.{HasTaken}
use Rattle.hunt_command.proofs.HuntsLaws.{NoneEnds}
use Rattle.hunt_command.proofs.hunting.make_batches.Given as goal

abbrev pub invariant-loop-left : goal.invariant-loop-left
invariant-loop-left g l = record {
  taken : HasTaken l.target l.hunt.seed l.hunt.from l.made l.sums;
  below : l.made ≤ most_made l.hunt.runs;
  none : NoneEnds l.target l.hunt.seed l.hunt.from l.hunt.runs l.made;
}

abbrev pub decreases-loop-left : goal.decreases-loop-left
decreases-loop-left g l = most_made l.hunt.runs - l.made
