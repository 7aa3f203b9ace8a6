use Rattle.std.proofs.Common.{◌≡◌, ◌≤◌, ◌+◌, ◌*◌, ◌++◌, length, drop, Some}
use Rattle.cell_machine.specs.State.{State}
use Rattle.cell_machine.specs.Run.{state_of}
use Rattle.cell_report.specs.States.{spes_text}
use Rattle.cell_report.proofs.states.put_spes.Given as goal

-- what was written, in front of the lines of the processors that are left, is the lines of all
abbrev pub invariant-loop-p : goal.invariant-loop-p
invariant-loop-p l = record {
  text : (M : State) → state_of l.m ≡ Some M → l.out.items ++ spes_text l.p (drop l.p M.spes) ≡ l.fn.out.items ++ spes_text 0 M.spes;
  short : length l.out.items ≤ length l.fn.out.items + 4927 * l.p;
}
