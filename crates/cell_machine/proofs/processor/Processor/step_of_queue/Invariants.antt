use Rattle.std.proofs.Common.{ℕ, ◌-◌}
use Rattle.std.specs.Prelude.{Result}
use Rattle.cell_base.specs.declared.steps.Step.{Step}
use Rattle.cell_machine.specs.Spe.{Spe}
use Rattle.mfc_queue.specs.At.{IsAt}
use Rattle.cell_machine.specs.Shows.{ShowsSpe}
use Rattle.cell_machine.proofs.Places.{queued_steps, steps_at}
use Rattle.cell_machine.proofs.processor.Processor.step_of_queue.Given as goal

-- the place that is left among the steps of the commands from this index on is the place among all
abbrev pub invariant-loop-cmd : goal.invariant-loop-cmd
invariant-loop-cmd l = (P : Spe) (r : Result Step ℕ) → ShowsSpe l.self P → IsAt r l.rest (steps_at l.spe P l.i) → IsAt r l.n (queued_steps l.spe P)

abbrev pub decreases-loop-cmd : goal.decreases-loop-cmd
decreases-loop-cmd l = 16 - l.i
