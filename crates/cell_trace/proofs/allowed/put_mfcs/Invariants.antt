use Rattle.std.proofs.Common.{◌≡◌, ◌++◌, length, Some}
use Rattle.cell_base.specs.declared.steps.Actor.TheVariants.{Mfc}
use Rattle.cell_machine.specs.State.{State}
use Rattle.cell_machine.specs.Run.{state_of}
use Rattle.cell_trace.specs.Allowed.{next_steps}
use Rattle.cell_trace.proofs.NextSteps.{lines_left}
use Rattle.cell_trace.proofs.allowed.put_mfcs.Given as goal

-- what was written, in front of the lines of the actors that are left, is the lines of all
abbrev pub invariant-loop-spe : goal.invariant-loop-spe
invariant-loop-spe l = (M : State) → state_of l.m ≡ Some M
    → l.out.items ++ lines_left (next_steps M l.m.setup.budget) Mfc l.spe (length M.spes) ≡ l.fn.out.items ++ lines_left (next_steps M l.m.setup.budget) Mfc 0 (length M.spes)
