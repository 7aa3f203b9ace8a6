use Rattle.std.proofs.Common.{◌≡◌, take, map, length, Some}
use Rattle.cell_machine.specs.State.{State}
use Rattle.cell_machine.specs.Run.{state_of}
use Rattle.hunt_reports.specs.Endings.{ended_in}
use Rattle.hunt_reports.proofs.ended.ended_of.Given as goal

abbrev pub invariant-loop-p : goal.invariant-loop-p
invariant-loop-p l = record {
  ended : (M : State) → state_of l.m ≡ Some M → l.ended.items ≡ map ended_in (take l.p M.spes);
  long : length l.ended.items ≡ l.p;
}
