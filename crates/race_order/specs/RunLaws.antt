-- What holds of the trace of every run of the written machine.
use Rattle.std.specs.Prelude.{◌≡◌, ℕ, length, Some, slice_get}
use Rattle.cell_base.specs.declared.steps.Step.{Step}
use Rattle.cell_machine.specs.declared.effect.Effect.{Effect}
use Rattle.cell_machine.specs.Spe.{Spe}
use Rattle.cell_machine.specs.State.{State}
use Rattle.cell_machine.specs.Next.{next}
use Rattle.cell_machine.specs.Run.{Ran, state_of}
use Rattle.cell_machine.specs.Effects.{effect_of}
use Rattle.cell_machine.specs.Traces.{trace_of}
use Rattle.race_order.specs.Trace.{Trace}
use Rattle.race_order.specs.Orderly.{MayCome, IsOrderly}
use Rattle.race_order.specs.Premises.{QueueMay, IsQueued}
use Rattle.race_order.specs.Stages.{KeepsStatus}

-- how many processors the run has
abbrev pub count_of : Ran → ℕ
count_of m = length m.setup.entries

-- the trace tells of each processor which commands it issued, and how far each has come
abbrev pub TracesTell : Type 0
TracesTell = (m : Ran) (trace : Trace) (M : State) (p : ℕ) (P : Spe) → trace_of m ≡ Some trace → state_of m ≡ Some M → slice_get M.spes p ≡ Some P → KeepsStatus p trace P

-- each step may come after those before it
abbrev pub TracesAreOrderly : Type 0
TracesAreOrderly = (m : Ran) (trace : Trace) → trace_of m ≡ Some trace → IsOrderly (count_of m) trace × IsQueued trace

-- and so may each step that is allowed after the run
abbrev pub StepsMayCome : Type 0
StepsMayCome = (m : Ran) (trace : Trace) (M N : State) (s : Step) (e : Effect) → trace_of m ≡ Some trace → state_of m ≡ Some M → next M s ≡ Some N → effect_of M s ≡ Some e
    → MayCome (count_of m) trace (record { step = s; effect = e }) × QueueMay trace (record { step = s; effect = e })
