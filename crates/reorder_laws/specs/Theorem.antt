-- Every order of a settled run's steps that keeps the ordered pairs is a run again, and ends alike.
use Rattle.std.specs.Prelude.{◌≡◌, ℕ, List, length, Some, is_some, slice_get, IsPermutation}
use Rattle.cell_base.specs.declared.steps.Step.{Step}
use Rattle.cell_machine.specs.Spe.{Spe, Moves}
use Rattle.cell_machine.specs.State.{State}
use Rattle.cell_machine.specs.Moves.{outstanding}
use Rattle.cell_machine.specs.Next.{next}
use Rattle.cell_machine.specs.Atomic.{holds}
use Rattle.cell_machine.specs.Limits.{IsOpening}
use Rattle.cell_machine.specs.Order.{after_steps}
use Rattle.cell_machine.specs.Run.{Ran, IsRun, state_of}
use Rattle.cell_machine.specs.Shows.{AllTwo}
use Rattle.cell_machine.specs.Traces.{trace_of}
use Rattle.race_order.specs.Trace.{Trace}
use Rattle.race_check.specs.declared.check.Verdict.TheVariants.{Accepted}
use Rattle.race_check.specs.Races.{IsVerdict}
use Rattle.race_check.specs.Reorderings.{IsReordering, at_places}
use Rattle.reorder_laws.specs.Settled.{IsSettled}

-- the same commands, and the same elements read, parts copied, commands retired and stalls acknowledged, in whatever order
pub record HaveSameMoves (m n : Moves) : Type 0 where
  pub issued : m.issued ≡ n.issued
  pub read : IsPermutation m.read n.read
  pub done : IsPermutation m.done n.done
  pub retired : IsPermutation m.retired n.retired
  pub resumed : IsPermutation m.resumed n.resumed

-- the same processor, but for the order of those lists and for the pending events
pub record IsSameSpe (P Q : Spe) : Type 0 where
  pub status : P.status ≡ Q.status
  pub pc : P.pc ≡ Q.pc
  pub registers : P.registers ≡ Q.registers
  pub store : P.store ≡ Q.store
  pub inbound : P.inbound ≡ Q.inbound
  pub outbound : P.outbound ≡ Q.outbound
  pub interrupt : P.interrupt ≡ Q.interrupt
  pub channels : P.channels ≡ Q.channels  -- the parameters, the slot, and the unread atomic and stall statuses
  pub tags : P.tags ≡ Q.tags
  pub signals : P.signals ≡ Q.signals
  pub mask : P.events.mask ≡ Q.events.mask
  pub moves : HaveSameMoves P.moves Q.moves
  pub outstanding : outstanding P ≡ outstanding Q  -- the commands that aren't complete
  pub reserved : P.reserved ≡ Q.reserved

-- the same state, but for that and the order of the record; so each processor holds the same line, and the same steps are allowed
pub record IsSameEnd (M N : State) : Type 0 where
  pub spes : AllTwo IsSameSpe M.spes N.spes
  pub memory : M.memory ≡ N.memory
  pub host : M.host ≡ N.host
  pub held : (p line : ℕ) (P Q : Spe) → slice_get M.spes p ≡ Some P → slice_get N.spes p ≡ Some Q → holds M.memory P line ≡ holds N.memory Q line
  pub allowed : (s : Step) → is_some (next M s) ≡ is_some (next N s)
  pub long : length M.steps ≡ length N.steps

-- the steps of the run in this order
abbrev pub reordered : Ran → List ℕ → Ran
reordered m order = after_steps m (at_places m.steps order)

-- they are a run from the same setup, and its last state is that of the recorded order
pub record IsRunAgain (m : Ran) (order : List ℕ) : Type 0 where
  pub run : IsRun m.setup (at_places m.steps order)
  pub ends : (M N : State) → state_of m ≡ Some M → state_of (reordered m order) ≡ Some N → IsSameEnd M N

-- so it is of each reordering of the run's trace
pub record EveryReorderingIsARun (m : Ran) : Type 0 where
  pub trace : Trace
  pub is : trace_of m ≡ Some trace
  pub again : (order : List ℕ) → IsReordering trace order → IsRunAgain m order

-- of every accepted and settled run
abbrev pub SettledRunsReorder : Type 0
SettledRunsReorder = (m : Ran) → IsOpening m.setup → IsRun m.setup m.steps → IsVerdict m Accepted → IsSettled m → EveryReorderingIsARun m
