-- Whose step a step is.
use Rattle.std.specs.Prelude.{IsSome, Contains}
use Rattle.cell_base.specs.declared.steps.Actor.{Actor}
use Rattle.cell_base.specs.declared.steps.Actor.TheVariants.{Spu, Mfc, Host as TheHost}
use Rattle.cell_base.specs.declared.steps.Step.{Step}
use Rattle.cell_base.specs.declared.steps.Step.TheVariants.{Exec, Piece, Elem, Retire, Atomic, Host}
use Rattle.cell_machine.specs.Next.{next}
use Rattle.cell_machine.specs.Run.{allowed}
use Rattle.cell_machine.specs.State.{State}

-- an instruction is its processor's, a step of a command its flow controller's, an action the host's
abbrev pub actor_of : Step → Actor
actor_of (Exec p) = Spu p
actor_of (Piece p c e k) = Mfc p
actor_of (Elem p c) = Mfc p
actor_of (Retire p c) = Mfc p
actor_of (Atomic p) = Mfc p
actor_of Host = TheHost

-- each step that is allowed is among the allowed ones of its actor
abbrev pub MissesNone : State → Type 0
MissesNone M = (s : Step) → IsSome (next M s) → Contains (allowed M (actor_of s)) s
