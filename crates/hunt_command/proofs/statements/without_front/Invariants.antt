use Rattle.std.proofs.Common.{◌≡◌, length}
use Rattle.hunt_command.specs.Statements.{without_front}
use Rattle.hunt_command.proofs.statements.without_front.Given as goal

abbrev pub invariant-loop-b : goal.invariant-loop-b
invariant-loop-b l = without_front l.rest ≡ without_front l.text

abbrev pub decreases-loop-b : goal.decreases-loop-b
decreases-loop-b l = length l.rest
