use Rattle.std.proofs.Common.{◌≡◌, ◌++◌, take, Some}
use Rattle.std.specs.List.{flat_map}
use Rattle.cell_machine.specs.State.{State}
use Rattle.cell_machine.specs.Run.{state_of}
use Rattle.hunt_reports.specs.Stops.{ended_told}
use Rattle.hunt_reports.proofs.stops.take_stops.Given as goal

abbrev pub invariant-loop-ended : goal.invariant-loop-ended
invariant-loop-ended l = (M : State) → state_of l.m ≡ Some M → l.findings.items ≡ l.fn.findings.items ++ flat_map (ended_told l.places M.spes) (take l.ended-index l.endings)
