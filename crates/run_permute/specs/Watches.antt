-- What a watch keeps of a processor.
use Rattle.std.specs.Prelude.{◌≡◌, ℕ, ◌+◌, ◌<◌, ◌⊎◌, ◌==◌, ◌&&◌, ◌||◌, ◌↔◌, Bool, true, false, not, List, [], ◌∷◌, ◌++◌, map, filter, length, Option, Some, None, slice_get, take, is_some, nat_le, if◌then◌else◌}
use Rattle.std.specs.Option.{option_map_or}
use Rattle.cell_base.specs.declared.steps.Step.{Step}
use Rattle.cell_base.specs.declared.steps.Step.TheVariants.{Exec, Piece, Elem, Retire, Atomic, Host}
use Rattle.cell_base.specs.declared.steps.ChannelOp.{ChannelOp}
use Rattle.cell_base.specs.declared.steps.ChannelOp.TheVariants.{Read, Count, Write}
use Rattle.mfc_command.specs.declared.command.Command.{Command}
use Rattle.mfc_command.specs.Order.{is_list}
use Rattle.cell_machine.specs.declared.effect.Note.{Note}
use Rattle.cell_machine.specs.declared.effect.Note.TheVariants.{Issue, AtomicIssue, Signal}
use Rattle.cell_machine.specs.Transfers.{is_signal}
use Rattle.cell_machine.specs.Run.{Ran}
use Rattle.race_order.specs.Trace.{IsStep, IsStepOf, is_of}
use Rattle.race_order.specs.Queue.{Has}
use Rattle.race_order.specs.Status.{begun, stepped}
use Rattle.race_order.specs.Told.{trace_in}
use Rattle.reorder_laws.specs.OrderedLaws.{IsOrdered}
use Rattle.race_order.specs.declared.progress.Progress.{Progress as Come}
use Rattle.run_permute.specs.declared.kept.Kept.{Kept}
use Rattle.run_permute.specs.declared.watch.Watch.{Watch}
use Rattle.run_permute.specs.SettledLists.{Each, IsIn, AreApart, AreChanged}
use Rattle.run_permute.specs.Online.{IsShutAt, IsRequested, IsStallRead, IsAtomicIssued, IsStalledTag, MayQueue, MayReadStall, is_plain, is_read_of, is_write_to}

-- ---- one command

-- the step at place i is ordered before an instruction of processor p below place x
pub record IsKnown (m : Ran) (p x i : ℕ) : Type 0 where
  pub place : ℕ
  pub below : place < x
  pub step : IsStep (trace_in m) place (Exec p)
  pub ordered : IsOrdered m i place

-- command c of processor p was complete before place j, and its steps below that are known at x
pub record IsShut (m : Ran) (p j x c : ℕ) (s : Come) : Type 0 where
  pub complete : s.done ≡ true
  pub known : (i : ℕ) → i < j → IsStepOf (trace_in m) i p c → IsKnown m p x i

-- how far the command has come before place j, and its steps below that which aren't known at x
pub record IsKept (m : Ran) (p j x : ℕ) (o : Kept) : Type 0 where
  pub has : Has (take j (trace_in m)) p o.cmd o.progress
  pub steps : (i : ℕ) → IsIn i o.steps.items → (i < j) × IsStepOf (trace_in m) i p o.cmd
  pub left : (i : ℕ) → i < j → IsStepOf (trace_in m) i p o.cmd → IsIn i o.steps.items ⊎ IsKnown m p x i

-- how far a command comes by a step; a complete one stays as it is
abbrev pub gone_on : ℕ → ℕ → Come → Step → Note → Come
gone_on p c s step note = if s.done then s else stepped p c s step note

-- a step that is the command's own stands behind the others
pub record IsTaken (p place : ℕ) (step : Step) (note : Note) (before after : Kept) : Type 0 where
  pub cmd : after.cmd ≡ before.cmd
  pub progress : after.progress ≡ gone_on p before.cmd before.progress step note
  pub steps : after.steps.items ≡ (if is_of p before.cmd step then before.steps.items ++ place ∷ [] else before.steps.items)

-- steps that are ordered before that at place k went out, and the last one that is left isn't one of those
pub record IsSwept (m : Ran) (k : ℕ) (before after : Kept) : Type 0 where
  pub cmd : after.cmd ≡ before.cmd
  pub progress : after.progress ≡ before.progress
  pub among : (i : ℕ) → IsIn i after.steps.items → IsIn i before.steps.items
  pub left : (i : ℕ) → IsIn i before.steps.items → IsIn i after.steps.items ⊎ IsOrdered m i k
  pub stop : (after.steps.items ≡ []) ⊎ ((i : ℕ) × IsIn i after.steps.items × (IsOrdered m i k → ⊥))

-- ---- all of them

abbrev pub cmds_of : List Kept → List ℕ
cmds_of = map (λ o. o.cmd)

-- the commands that processor p issued before place j, but those that are shut
pub record AreKept (m : Ran) (p j x : ℕ) (kept : List Kept) : Type 0 where
  pub each : Each (IsKept m p j x) kept
  pub all : (c : ℕ) (s : Come) → Has (take j (trace_in m)) p c s → IsIn c (cmds_of kept) ⊎ IsShut m p j x c s
  pub apart : AreApart (cmds_of kept)

abbrev pub is_closed : Kept → Bool
is_closed o = o.progress.done && (length o.steps.items == 0)

abbrev pub is_listed : Kept → Bool
is_listed o = is_list o.progress.command.kind

-- the tag of the list that is the only one and is stalled
abbrev pub only_tag : List Kept → Option ℕ
only_tag [] = None
only_tag (o ∷ []) = if o.progress.stalled then Some o.progress.command.tag else None
only_tag (o ∷ x ∷ xs) = None

-- ---- a watch

-- the flags, the tag, and the commands
pub record Watches (m : Ran) (p j x : ℕ) (w : Watch) : Type 0 where
  pub requested : (w.requested ≡ true) ↔ IsRequested m p j
  pub atomic : (w.atomic ≡ true) ↔ IsAtomicIssued m p j
  pub stalled : (w.stalled ≡ true) ↔ IsStallRead m p j
  pub tag : w.stalled ≡ true → IsStalledTag m p j w.tag
  pub commands : AreKept m p j x w.kept.items

-- ---- a step

-- the step is one of a command of processor p
abbrev pub IsTransferOf : ℕ → Step → Type 0
IsTransferOf p (Piece q c e k) = q ≡ p
IsTransferOf p (Elem q c) = q ≡ p
IsTransferOf p (Retire q c) = q ≡ p
IsTransferOf p (Exec q) = ⊥
IsTransferOf p (Atomic q) = ⊥
IsTransferOf p Host = ⊥

-- the tag of the only list of the commands, which is stalled, where the tag of one that is so stood before them; None where there is none such
abbrev pub stalled_from : Option ℕ → List Kept → Option ℕ
stalled_from before [] = before
stalled_from before (o ∷ os) =
    if is_listed o then (if is_some before || not o.progress.stalled then None else stalled_from (Some o.progress.command.tag) os) else stalled_from before os

-- steps went out of the commands, and then those that are closed
pub record AreSwept (m : Ran) (k : ℕ) (before after : List Kept) : Type 0 where
  pub between : List Kept
  pub swept : AreChanged (IsSwept m k) (length before) before between
  pub left : after ≡ filter (λ o. not (is_closed o)) between

-- none of the commands is closed at place j
abbrev pub AreLeft : Ran → ℕ → ℕ → List Kept → Type 0
AreLeft m p j kept = Each (λ o. IsShutAt m p o.cmd j → ⊥) kept

-- the command that was issued
pub record IsNew (c : ℕ) (command : Command) (o : Kept) : Type 0 where
  pub cmd : o.cmd ≡ c
  pub progress : o.progress ≡ begun command
  pub steps : o.steps.items ≡ []

-- the command that the note tells of stands behind the others
abbrev pub IsAdded : Note → List Kept → List Kept → Type 0
IsAdded (Issue c command) before after = (o : Kept) × IsNew c command o × (after ≡ before ++ o ∷ [])
IsAdded _ before after = after ≡ before

abbrev pub tag_of : Option ChannelOp → Option ℕ
tag_of None = None
tag_of (Some (Read rt ch)) = None
tag_of (Some (Count rt ch)) = None
tag_of (Some (Write ch value)) = if ch == 26 then Some value else None

abbrev pub is_issue : Note → Bool
is_issue (Issue c command) = true
is_issue _ = false

abbrev pub is_atomic_issue : Note → Bool
is_atomic_issue AtomicIssue = true
is_atomic_issue _ = false

abbrev pub does : (ChannelOp → Bool) → Option ChannelOp → Bool
does test operation = option_map_or test operation false

-- the commands that aren't closed bear on the step
abbrev pub is_looked_at : Option ChannelOp → Note → Bool
is_looked_at operation note = is_issue note || does (is_read_of 25) operation

abbrev pub may_acknowledge : Watch → Option ChannelOp → Option ℕ → Bool
may_acknowledge w operation (Some tag) = w.stalled && w.tag == tag
may_acknowledge w operation None = option_map_or is_plain operation true

-- a settled run may have the operation
abbrev pub may_operate : Watch → Option ChannelOp → Bool
may_operate w operation =
    if does (is_read_of 25) operation then not w.stalled && is_some (stalled_from None w.kept.items) else may_acknowledge w operation (tag_of operation)

-- and an instruction that tells this
abbrev pub may_tell : Watch → Note → Bool
may_tell w (Issue c command) = not (is_signal command.kind) && (not (w.requested || (w.stalled && is_list command.kind)) && nat_le (length w.kept.items) 15)
may_tell w AtomicIssue = not w.atomic
may_tell w _ = true

-- a settled run may have an action of the host that tells this
abbrev pub may_act : Note → Bool
may_act (Signal q register) = false
may_act _ = true

-- the flags after it, and the tag
abbrev pub marked : Watch → Option ChannelOp → Note → Watch
marked w operation note = record w {
  requested = does (is_write_to 23) operation || (w.requested && not (does (is_read_of 24) operation));
  stalled = does (is_read_of 25) operation || (w.stalled && not (does (is_write_to 26) operation));
  atomic = is_atomic_issue note || (w.atomic && not (does (is_read_of 27) operation));
  tag = if does (is_read_of 25) operation then option_map_or (λ t. t) (stalled_from None w.kept.items) w.tag else w.tag;
}

-- what the bits say: such an operation, and an instruction that tells this, may stand at place j of a settled run
pub record MayOperate (m : Ran) (p j : ℕ) (operation : Option ChannelOp) : Type 0 where
  pub plain : (op : ChannelOp) → operation ≡ Some op → is_plain op ≡ true
  pub stalls : does (is_read_of 25) operation ≡ true → MayReadStall m p j
  pub acknowledges : (tag : ℕ) → operation ≡ Some (Write 26 tag) → IsStalledTag m p j tag

pub record MayTell (m : Ran) (p j : ℕ) (note : Note) : Type 0 where
  pub queues : (c : ℕ) (command : Command) → note ≡ Issue c command → MayQueue m p j command
  pub atomic : note ≡ AtomicIssue → IsAtomicIssued m p j → ⊥

-- ---- all watches

abbrev pub IsFresh : Watch → Type 0
IsFresh w = (w.requested ≡ false) × (w.atomic ≡ false) × (w.stalled ≡ false) × (w.kept.items ≡ [])

-- one for each processor
pub record AreWatches (m : Ran) (j : ℕ) (watches : List Watch) : Type 0 where
  pub many : length watches ≡ length m.setup.entries
  pub each : (p : ℕ) (w : Watch) → slice_get watches p ≡ Some w → Watches m p j j w
