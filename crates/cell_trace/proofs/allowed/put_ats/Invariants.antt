use Rattle.std.proofs.Common.{◌≡◌, ◌++◌, drop, Some}
use Rattle.cell_machine.specs.State.{State}
use Rattle.cell_machine.specs.Run.{state_of}
use Rattle.cell_trace.specs.Allowed.{at_lines}
use Rattle.cell_trace.proofs.allowed.put_ats.Given as goal

-- what was written, in front of the lines of the processors that are left, is the lines of all
abbrev pub invariant-loop-spe : goal.invariant-loop-spe
invariant-loop-spe l = (M : State) → state_of l.m ≡ Some M → l.out.items ++ at_lines l.spe (drop l.spe M.spes) ≡ l.fn.out.items ++ at_lines 0 M.spes
