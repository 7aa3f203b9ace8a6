use Rattle.hunt_command.specs.Hunts.{AreParts}
use Rattle.hunt_command.proofs.parts.make_parts.Given as goal

abbrev pub invariant-loop : goal.invariant-loop
invariant-loop l = AreParts l.target l.seed l.from l.end l.parts.items
