use Rattle.std.proofs.Common.{◌≡◌, ◌≤◌, ◌++◌, drop, length, Some}
use Rattle.std.specs.List.{flat_map}
use Rattle.cell_machine.specs.State.{State}
use Rattle.cell_machine.specs.Run.{state_of}
use Rattle.cell_trace.specs.Allowed.{may_line, next_steps}
use Rattle.cell_trace.proofs.allowed.put_steps.Given as goal

-- what was written, in front of the lines of the steps that are left, is the lines of all
abbrev pub invariant-loop-place : goal.invariant-loop-place
invariant-loop-place l = (M : State) → state_of l.m ≡ Some M
    → (l.place ≤ length (next_steps M l.m.setup.budget l.actor))
    × (l.out.items ++ flat_map may_line (drop l.place (next_steps M l.m.setup.budget l.actor)) ≡ l.fn.out.items ++ flat_map may_line (next_steps M l.m.setup.budget l.actor))
