use Rattle.std.proofs.Common.{◌≡◌, ◌++◌, length}
use Rattle.hunt_reports.specs.Lists.{bytes_in}
use Rattle.hunt_command.specs.Statements.{statements_in}
use Rattle.hunt_command.proofs.statements.statements_in.Given as goal

abbrev pub invariant-loop-rest : goal.invariant-loop-rest
invariant-loop-rest l = bytes_in l.statements.items ++ statements_in l.rest ≡ statements_in l.text

abbrev pub decreases-loop-rest : goal.decreases-loop-rest
decreases-loop-rest l = length l.rest
