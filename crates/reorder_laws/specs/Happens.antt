-- What a step does to one processor, but for its signal registers and its events, and what it tells.
use Rattle.std.specs.Prelude.{◌≡◌, ◌≢◌, ℕ, ◌⊎◌, true, List, Option, Some, None, slice_get, Ok}
use Rattle.cell_base.specs.declared.steps.Step.{Step}
use Rattle.cell_base.specs.declared.steps.Step.TheVariants.{Exec, Piece, Elem, Retire, Atomic, Host}
use Rattle.cell_host.specs.declared.HostAction.{HostAction}
use Rattle.cell_host.specs.declared.HostAction.TheVariants.{Send, Take, TakeIntr, Store, Await, Signal as SignalTo}
use Rattle.mfc_command.specs.declared.command.Command.{Command}
use Rattle.mfc_command.specs.declared.command.AtomicOp.{AtomicOp}
use Rattle.mfc_command.specs.declared.command.DmaFault.{DmaFault as Fault}
use Rattle.mfc_lists.specs.declared.Element.{Element}
use Rattle.cell_machine.specs.declared.status.Status.TheVariants.{DmaFault}
use Rattle.cell_machine.specs.declared.effect.Effect.{Effect}
use Rattle.cell_machine.specs.declared.effect.Note.{Note}
use Rattle.cell_machine.specs.declared.effect.Note.TheVariants.{Nothing, Ended, Element as Reading, Signal}
use Rattle.cell_machine.specs.Spe.{Spe}
use Rattle.cell_machine.specs.State.{State}
use Rattle.cell_machine.specs.Memory.{MainMemory, lines_of}
use Rattle.cell_machine.specs.Moves.{present, parts_in}
use Rattle.cell_machine.specs.Tags.{settled}
use Rattle.cell_machine.specs.Next.{next}
use Rattle.cell_machine.specs.Transfers.{has_part, has_element, is_left, next_element, with_done, with_read, with_retired}
use Rattle.cell_machine.specs.Atomic.{answered}
use Rattle.cell_machine.specs.Effects.{effect_of, host_tells}
use Rattle.cell_machine.specs.EffectLaws.{maker}
use Rattle.reorder_laws.specs.Deeds.{Did, did, note_of, exec_deed}
use Rattle.reorder_laws.specs.Controllers.{moved_on}
use Rattle.reorder_laws.specs.Silent.{IsLike}
use Rattle.reorder_laws.specs.Hosting.{host_may, host_leaves}

-- the processor that an action of the host concerns, but for its signal registers
abbrev pub concerns : HostAction → Option ℕ
concerns (Send p value) = Some p
concerns (Take p) = Some p
concerns (TakeIntr p) = Some p
concerns (Store ea len bytes) = None
concerns (Await p) = Some p
concerns (SignalTo p r value) = None

-- it tells of a signal register, if of anything
abbrev pub TellsSignal : Note → Type 0
TellsSignal note = (note ≡ Nothing) ⊎ ((q : ℕ) × (r : ℕ) × (note ≡ Signal q r))

-- what the step s, which tells this, makes of processor p, which is P before it and Q after it
pub data Happens (memory : MainMemory) (s : Step) (note : Note) (p : ℕ) (P Q : Spe) : Type 0 where
  -- it is a step of another processor
  Passes : (q : ℕ) → maker s ≡ Some q → q ≢ p → IsLike Q (settled P) → Happens memory s note p P Q
  -- an instruction
  Executes : (d : Did) → s ≡ Exec p → exec_deed (lines_of memory) P ≡ Some d → note ≡ note_of p d → IsLike Q (settled (did d P)) → Happens memory s note p P Q
  -- a part of an element is copied, or sent to a signal register
  Copies : (c e k : ℕ) (d : Command) (x : Element) (store : List ℕ) → s ≡ Piece p c e k → slice_get P.moves.issued c ≡ Some d → has_part P.moves c e k d ≡ true
      → present P.moves.read c d ≡ Some x → x.number ≡ e → TellsSignal note → IsLike Q (settled (record (moved_on P (with_done P.moves c e k) c d) { store = store })) → Happens memory s note p P Q
  -- an element is read, or is at fault
  Reads : (c : ℕ) (d : Command) (x : Element) → s ≡ Elem p c → slice_get P.moves.issued c ≡ Some d → has_element P.moves c d ≡ true → next_element (lines_of memory) P c d ≡ Ok x
      → note ≡ Reading x.number (parts_in x) x.flagged → IsLike Q (settled (moved_on P (with_read P.moves c x) c d)) → Happens memory s note p P Q
  Faults : (c : ℕ) (d : Command) (kind : Fault) → s ≡ Elem p c → slice_get P.moves.issued c ≡ Some d → has_element P.moves c d ≡ true → (note ≡ Nothing) ⊎ (note ≡ Ended)
      → IsLike Q (settled (record P { status = DmaFault kind })) → Happens memory s note p P Q
  -- a command is retired
  Retires : (c : ℕ) (d : Command) → s ≡ Retire p c → slice_get P.moves.issued c ≡ Some d → is_left P.moves c d ≡ true → note ≡ Nothing
      → IsLike Q (settled (record P { moves = with_retired P.moves c })) → Happens memory s note p P Q
  -- the atomic command is done
  Answers : (a : AtomicOp) (store : List ℕ) → s ≡ Atomic p → P.channels.slot ≡ Some a → note ≡ Nothing → IsLike Q (settled (record (answered memory P a) { store = store })) → Happens memory s note p P Q
  -- an action of the host, which concerns the processor or doesn't
  Hosts : (a : HostAction) → s ≡ Host → concerns a ≡ Some p → host_may a P ≡ true → note ≡ host_tells a → IsLike Q (settled (host_leaves a P)) → Happens memory s note p P Q
  HostPasses : (a : HostAction) → s ≡ Host → (concerns a ≡ Some p → ⊥) → note ≡ host_tells a → IsLike Q (settled P) → Happens memory s note p P Q

pub record HappensTo (M N : State) (s : Step) (e : Effect) (p : ℕ) (P : Spe) : Type 0 where
  pub spe : Spe
  pub at : slice_get N.spes p ≡ Some spe
  pub happens : Happens M.memory s e.note p P spe

abbrev pub StepsHappen : Type 0
StepsHappen = (M N : State) (s : Step) (e : Effect) (p : ℕ) (P : Spe) → next M s ≡ Some N → effect_of M s ≡ Some e → slice_get M.spes p ≡ Some P → HappensTo M N s e p P
