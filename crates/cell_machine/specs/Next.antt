-- One step of the written machine.
use Rattle.std.specs.Prelude.{ℕ, [], ◌∷◌, ◌++◌, map, Option, None, slice_get, slice_set}
use Rattle.std.specs.List.{enumerate_from}
use Rattle.std.specs.Option.{option_and_then, option_map}
use Rattle.cell_base.specs.declared.steps.Step.{Step}
use Rattle.cell_base.specs.declared.steps.Step.TheVariants.{Exec, Piece, Elem, Retire, Atomic, Host}
use Rattle.cell_machine.specs.Spe.{Spe}
use Rattle.cell_machine.specs.Memory.{MainMemory, lines_of}
use Rattle.cell_machine.specs.State.{State}
use Rattle.cell_machine.specs.Signals.{sent_in}
use Rattle.cell_machine.specs.Tags.{settled}
use Rattle.cell_machine.specs.Raised.{with_raised, raised_at}
use Rattle.cell_machine.specs.Exec.{exec}
use Rattle.cell_machine.specs.Transfers.{piece, elem, retire, Left}
use Rattle.cell_machine.specs.Atomic.{atomic}
use Rattle.cell_machine.specs.Hosts.{host}

-- what a step that leaves the memory leaves
abbrev pub left : MainMemory → Spe → Left
left memory P = record { spe = P; memory = memory; sent = None }

-- what a step of a processor leaves: it looks at that processor and at the memory, and at nothing else; what it sends is delivered behind it
abbrev pub own : MainMemory → Step → Spe → Option Left
own memory (Exec p) P = option_map (left memory) (exec (lines_of memory) P)
own memory (Piece p c e k) P = piece memory P c e k
own memory (Elem p c) P = option_map (left memory) (elem (lines_of memory) P c)
own memory (Retire p c) P = option_map (left memory) (retire P c)
own memory (Atomic p) P = atomic memory P
own memory Host P = None

-- M with what a step left of its processor p and of the memory, and with what it sent delivered
abbrev pub with_left : State → ℕ → Left → State
with_left M p x = record M { spes = sent_in (slice_set M.spes p x.spe) x.sent; memory = x.memory }

abbrev pub act_in : State → ℕ → Step → Option State
act_in M p s = option_and_then (λ P. option_map (with_left M p) (own M.memory s P)) (slice_get M.spes p)

-- what the step does, but for what each step does at its end
abbrev pub act : State → Step → Option State
act M (Exec p) = act_in M p (Exec p)
act M (Piece p c e k) = act_in M p (Piece p c e k)
act M (Elem p c) = act_in M p (Elem p c)
act M (Retire p c) = act_in M p (Retire p c)
act M (Atomic p) = act_in M p (Atomic p)
act M Host = host M

-- N with the events pending that the step raises
abbrev pub with_events : State → Step → State → State
with_events M s N = record N { spes = map (λ x. with_raised x.1 (raised_at M s N x.0)) (enumerate_from 0 N.spes) }

-- N with each processor settled
abbrev pub settled_in : State → State
settled_in N = record N { spes = map settled N.spes }

-- at the end of each step the events that it raised are pending, the processors are settled, and the record grows
abbrev pub closed_in : State → Step → State → State
closed_in M s N = settled_in (with_events M s N)

abbrev pub ended_by : State → Step → State → State
ended_by M s N = record (closed_in M s N) { steps = M.steps ++ s ∷ [] }

-- the state after the step, None where it isn't allowed
abbrev pub next : State → Step → Option State
next M s = option_map (ended_by M s) (act M s)
