-- A run by its places: the state before each of its steps, and what stands at a place.
use Rattle.std.specs.Prelude.{◌≡◌, ℕ, Option, Some, slice_get, take}
use Rattle.cell_base.specs.declared.steps.ChannelOp.{ChannelOp}
use Rattle.cell_base.specs.declared.steps.ChannelOp.TheVariants.{Read, Write}
use Rattle.cell_base.specs.declared.steps.Step.TheVariants.{Exec}
use Rattle.mfc_command.specs.declared.command.Command.{Command}
use Rattle.cell_machine.specs.declared.effect.Note.TheVariants.{AtomicIssue}
use Rattle.cell_machine.specs.Spe.{Spe}
use Rattle.cell_machine.specs.Exec.{asks}
use Rattle.cell_machine.specs.Run.{Ran, spe_of}
use Rattle.cell_machine.specs.Order.{after_steps}
use Rattle.race_order.specs.Trace.{Notes, IssuesAt}
use Rattle.race_order.specs.Told.{trace_in}

-- the run of the steps before place j
abbrev pub until : Ran → ℕ → Ran
until m j = after_steps m (take j m.steps)

-- processor p before the step at place j
abbrev pub spe_at : Ran → ℕ → ℕ → Option Spe
spe_at m j p = spe_of (until m j) p

-- at place j processor p, which is P, makes an instruction that asks for this channel operation
pub record Asks (m : Ran) (j p : ℕ) (op : ChannelOp) : Type 0 where
  pub step : slice_get m.steps j ≡ Some (Exec p)
  pub spe : Spe
  pub at : spe_at m j p ≡ Some spe
  pub asks_is : asks spe ≡ Some op

-- it reads the channel, into some register; it writes the value to the channel
pub record ReadsChannel (m : Ran) (j p channel : ℕ) : Type 0 where
  pub register : ℕ
  pub reads : Asks m j p (Read register channel)

abbrev pub WritesChannel : Ran → ℕ → ℕ → ℕ → ℕ → Type 0
WritesChannel m j p channel value = Asks m j p (Write channel value)

-- at place j processor p issues the queued command of this number; an atomic command
abbrev pub IssuesQueued : Ran → ℕ → ℕ → ℕ → Command → Type 0
IssuesQueued m j p c command = IssuesAt (trace_in m) j p c command

abbrev pub IssuesAtomic : Ran → ℕ → ℕ → Type 0
IssuesAtomic m j p = Notes (trace_in m) j (Exec p) AtomicIssue
