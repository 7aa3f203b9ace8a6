use Rattle.hunt_command.specs.Hunts.{HasTaken}
use Rattle.hunt_command.proofs.runs.take_runs.Given as goal

abbrev pub invariant-loop-run : goal.invariant-loop-run
invariant-loop-run l = HasTaken l.target l.seed l.from l.run l.sums
