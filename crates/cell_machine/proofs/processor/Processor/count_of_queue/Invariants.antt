use Rattle.std.proofs.Common.{◌≡◌, ℕ, ◌+◌, ◌-◌, ◌*◌, ◌≤◌, length}
use Rattle.cell_machine.specs.Spe.{Spe}
use Rattle.cell_machine.specs.Shows.{ShowsSpe}
use Rattle.cell_machine.proofs.Places.{queued_steps, steps_at}
use Rattle.cell_machine.proofs.processor.Processor.count_of_queue.Given as goal

-- those of the commands before this index are counted
abbrev pub invariant-loop-cmd : goal.invariant-loop-cmd
invariant-loop-cmd l = (l.i ≤ 16) × (l.count ≤ 8589934592 * l.i) × ((spe : ℕ) (P : Spe) → ShowsSpe l.self P → length (queued_steps spe P) ≡ l.count + length (steps_at spe P l.i))

abbrev pub decreases-loop-cmd : goal.decreases-loop-cmd
decreases-loop-cmd l = 16 - l.i
