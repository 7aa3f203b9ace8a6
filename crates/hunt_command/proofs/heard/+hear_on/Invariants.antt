use Rattle.std.proofs.Common.{length}
use Rattle.hunt_command.proofs.heard.+hear_on.Given as goal

abbrev pub decreases-hear_on : goal.decreases-hear_on
decreases-hear_on l = length l.words.now
