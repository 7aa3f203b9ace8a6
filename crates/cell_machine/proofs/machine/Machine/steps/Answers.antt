use Rattle.cell_machine.proofs.ByteRunning.{machine-bytes}
use Rattle.cell_machine.proofs.Completion.{machine-in_order}
use Rattle.cell_machine.proofs.ListOrder.{machine-lists_in_order}
use Rattle.cell_machine.proofs.LocksRun.{machine-locks_kept}
use Rattle.cell_machine.proofs.Recorded.{machine-recorded}
use Rattle.cell_machine.proofs.Sounds.{machine-sound}
use Rattle.cell_machine.proofs.machine.Machine.steps.Goals as goal

pub returns-clause-order : goal.returns-clause-order
returns-clause-order c = machine-in_order _ _ _ _ _ _ _ c.self.invariant.0 c.self.view_is

pub returns-clause-lists : goal.returns-clause-lists
returns-clause-lists c = machine-lists_in_order _ _ _ _ _ _ _ c.self.invariant.0 c.self.view_is

pub returns-clause-locks : goal.returns-clause-locks
returns-clause-locks c = machine-locks_kept _ _ _ _ _ _ _ c.self.invariant.0 c.self.view_is

pub returns-clause-recorded : goal.returns-clause-recorded
returns-clause-recorded c = machine-recorded _ _ _ _ _ _ _ c.self.invariant.0 c.self.view_is

pub returns-clause-sound : goal.returns-clause-sound
returns-clause-sound c = machine-sound _ _ _ _ _ _ _ c.self.invariant.0 c.self.view_is

pub returns-clause-bytes : goal.returns-clause-bytes
returns-clause-bytes c = machine-bytes _ _ _ _ _ _ _ c.self.invariant.0 c.self.view_is
