use Rattle.std.proofs.Common.{◌-◌}
use Rattle.cell_machine.specs.Spe.{Moves}
use Rattle.cell_machine.specs.Shows.{ShowsCommands}
use Rattle.cell_machine.proofs.Acknowledged.{acknowledged_below}
use Rattle.cell_machine.proofs.commands.Commands.acknowledge.Given as goal

-- the stalls of the commands below the next number are acknowledged
abbrev pub invariant-loop-cmd : goal.invariant-loop-cmd
invariant-loop-cmd l = (m : Moves) → ShowsCommands l.fn.self m → ShowsCommands l.self (acknowledged_below m l.tag l.next)

abbrev pub decreases-loop-cmd : goal.decreases-loop-cmd
decreases-loop-cmd l = 1000000 - l.next
