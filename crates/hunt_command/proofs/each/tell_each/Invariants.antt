use Rattle.hunt_command.specs.Hunts.{TellsRuns}
use Rattle.hunt_command.proofs.each.tell_each.Given as goal

abbrev pub invariant-loop-place : goal.invariant-loop-place
invariant-loop-place l = TellsRuns l.setup l.seed l.from l.place l.out.items l.is_racy
