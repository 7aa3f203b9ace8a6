use Rattle.std.proofs.Common.{◌≡◌, ◌≤◌, ◌+◌, ◌++◌, length, Some}
use Rattle.std.specs.Prelude.{slice_get}
use Rattle.cell_machine.specs.State.{State}
use Rattle.cell_machine.specs.Spe.{Spe}
use Rattle.cell_machine.specs.Moves.{outstanding}
use Rattle.cell_machine.specs.Run.{state_of}
use Rattle.cell_trace.specs.Flows.{command_lines}
use Rattle.cell_trace.proofs.Commands.{later}
use Rattle.cell_trace.proofs.flows.put_commands.Given as goal

-- what was written, in front of the lines of the commands that are left, is the lines of all, and no more are left than steps
abbrev pub invariant-loop : goal.invariant-loop
invariant-loop l = (M : State) → (P : Spe) → state_of l.m ≡ Some M → slice_get M.spes l.spe ≡ Some P
    → (l.out.items ++ command_lines l.spe P (later l.next P) ≡ l.fn.out.items ++ command_lines l.spe P (outstanding P)) × (length (later l.next P) + l.counter ≤ length l.m.steps)
