-- How a step of a run is named: by its chain, its command, its element and its place.
use Rattle.std.specs.Prelude.{◌≡◌, ℕ, ◌+◌, ◌*◌, Some, slice_get}
use Rattle.order_sets.specs.declared.facts.At.{At}
use Rattle.cell_base.specs.declared.steps.Step.{Step}
use Rattle.cell_base.specs.declared.steps.Step.TheVariants.{Exec, Piece, Elem, Retire, Atomic, Host}
use Rattle.cell_machine.specs.declared.effect.Note.{Note}
use Rattle.cell_machine.specs.declared.effect.Note.TheVariants.{Element}
use Rattle.cell_machine.specs.declared.effect.Effect.{Effect}
use Rattle.race_order.specs.Trace.{Event, Trace}

abbrev pub event_of : Step → Effect → Event
event_of step effect = record { step = step; effect = effect }

-- with n processors: chain p has the instructions of processor p, n + p its atomic steps, 2 n + p the steps of its queued commands, 3 n the host's
abbrev pub chain_of : ℕ → Step → ℕ
chain_of n (Exec p) = p
chain_of n (Piece p c e k) = 2 * n + p
chain_of n (Elem p c) = 2 * n + p
chain_of n (Retire p c) = 2 * n + p
chain_of n (Atomic p) = n + p
chain_of n Host = 3 * n

abbrev pub cmd_of : Step → ℕ
cmd_of (Exec p) = 0
cmd_of (Piece p c e k) = c
cmd_of (Elem p c) = c
cmd_of (Retire p c) = c
cmd_of (Atomic p) = 0
cmd_of Host = 0

-- the number of the element; a list element that is faulty stands behind all others
abbrev pub elem_noted : Note → ℕ
elem_noted (Element number parts flagged) = number
elem_noted _ = 65535

-- a piece has the number of its element, and so has the reading of one
abbrev pub elem_of : Step → Note → ℕ
elem_of (Exec p) note = 0
elem_of (Piece p c e k) note = e
elem_of (Elem p c) note = elem_noted note
elem_of (Retire p c) note = 0
elem_of (Atomic p) note = 0
elem_of Host note = 0

-- the name of the step at a place
abbrev pub stamp : ℕ → ℕ → Event → At
stamp n place e = record { chain = chain_of n e.step; cmd = cmd_of e.step; elem = elem_of e.step e.effect.note; place = place }

-- the step at place i has this name
pub record IsStamp (n : ℕ) (trace : Trace) (i : ℕ) (a : At) : Type 0 where
  pub event : Event
  pub at : slice_get trace i ≡ Some event
  pub is : a ≡ stamp n i event
