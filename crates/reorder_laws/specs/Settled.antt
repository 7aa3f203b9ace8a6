-- Settled runs: those in which no processor sees how far its flow controller has come, but where something orders what it sees.
use Rattle.std.specs.Prelude.{◌≡◌, ◌≢◌, ℕ, ◌<◌, ◌≤◌, ◌⊎◌, true, false, List, length, Some, slice_get, Contains}
use Rattle.cell_base.specs.declared.steps.ChannelOp.TheVariants.{Count}
use Rattle.cell_base.specs.declared.steps.Step.TheVariants.{Host}
use Rattle.mfc_command.specs.declared.command.Command.{Command}
use Rattle.mfc_command.specs.Order.{is_list}
use Rattle.cell_machine.specs.Spe.{Spe, is_faulted}
use Rattle.cell_machine.specs.Moves.{is_complete, is_stalled}
use Rattle.cell_machine.specs.declared.effect.Note.TheVariants.{Signal}
use Rattle.cell_machine.specs.Transfers.{is_signal}
use Rattle.cell_machine.specs.Run.{Ran}
use Rattle.race_order.specs.Trace.{IsStepOf, Notes}
use Rattle.race_order.specs.Told.{trace_in}
use Rattle.reorder_laws.specs.OrderedLaws.{IsOrdered}
use Rattle.reorder_laws.specs.Places.{spe_at, Asks, ReadsChannel, WritesChannel, IssuesQueued, IssuesAtomic}

-- a place between two others at which this is so
pub record Between (i j : ℕ) (P : ℕ → Type 0) : Type 0 where
  pub place : ℕ
  pub above : i < place
  pub below : place < j
  pub holds : P place

-- the channels of the tag request, the tag status, the stall status, its acknowledgement, and the atomic status
abbrev pub AsksForTags : Ran → ℕ → ℕ → ℕ → Type 0
AsksForTags m j p value = WritesChannel m j p 23 value

abbrev pub ReadsTags : Ran → ℕ → ℕ → Type 0
ReadsTags m p j = ReadsChannel m j p 24

abbrev pub ReadsStalls : Ran → ℕ → ℕ → Type 0
ReadsStalls m p j = ReadsChannel m j p 25

pub record Acknowledges (m : Ran) (p j : ℕ) : Type 0 where
  pub tag : ℕ
  pub writes : WritesChannel m j p 26 tag

abbrev pub ReadsAtomic : Ran → ℕ → ℕ → Type 0
ReadsAtomic m p j = ReadsChannel m j p 27

-- no instruction reads a count
abbrev pub CountsNothing : Ran → Type 0
CountsNothing m = (j p register channel : ℕ) → Asks m j p (Count register channel) → ⊥

-- each tag request is one for all groups of the mask, and after it no command comes into the queue until the status was read
pub record WaitsForTags (m : Ran) : Type 0 where
  pub all : (j p value : ℕ) → AsksForTags m j p value → 1 < value
  pub waits : (i j p value c : ℕ) (d : Command) → i < j → AsksForTags m i p value → IssuesQueued m j p c d → Between i j (ReadsTags m p)

-- at place j command c of processor p is complete, and all its steps are ordered before j
pub record IsClosed (m : Ran) (j p c : ℕ) : Type 0 where
  pub spe : Spe
  pub at : spe_at m j p ≡ Some spe
  pub complete : is_complete spe.moves c ≡ true
  pub ordered : (i : ℕ) → IsStepOf (trace_in m) i p c → IsOrdered m i j

-- where a command comes into the queue, at most fifteen earlier ones aren't closed
pub record HasRoomAt (m : Ran) (j p c : ℕ) : Type 0 where
  pub unclosed : List ℕ
  pub few : length unclosed ≤ 15
  pub closed : (b : ℕ) → b < c → Contains unclosed b ⊎ IsClosed m j p b

abbrev pub HasRoom : Ran → Type 0
HasRoom m = (j p c : ℕ) (d : Command) → IssuesQueued m j p c d → HasRoomAt m j p c

-- where the stall status is read, one list that was issued before isn't closed, and it is stalled.
-- The next acknowledgement names its tag, and until then no list is issued
pub record ReadsOneStall (m : Ran) (j p : ℕ) : Type 0 where
  pub spe : Spe
  pub at : spe_at m j p ≡ Some spe
  pub cmd : ℕ
  pub command : Command
  pub is : slice_get spe.moves.issued cmd ≡ Some command
  pub list : is_list command.kind ≡ true
  pub stalled : is_stalled spe.moves cmd command ≡ true
  pub others : (c : ℕ) (d : Command) → slice_get spe.moves.issued c ≡ Some d → is_list d.kind ≡ true → c ≢ cmd → IsClosed m j p c
  pub named : (k tag : ℕ) → j < k → WritesChannel m k p 26 tag → Between j k (Acknowledges m p) ⊎ (tag ≡ command.tag)
  pub quiet : (k c : ℕ) (d : Command) → j < k → IssuesQueued m k p c d → is_list d.kind ≡ true → Between j k (Acknowledges m p)

-- a read stands before the first acknowledgement and between two, and an acknowledgement between two reads
pub record AlternatesStalls (m : Ran) (p : ℕ) : Type 0 where
  pub reads : (i j : ℕ) → i < j → ReadsStalls m p i → ReadsStalls m p j → Between i j (Acknowledges m p)
  pub first : (j : ℕ) → Acknowledges m p j → (i : ℕ) × (i < j) × ReadsStalls m p i
  pub acknowledgements : (i j : ℕ) → i < j → Acknowledges m p i → Acknowledges m p j → Between i j (ReadsStalls m p)

pub record HandlesStalls (m : Ran) : Type 0 where
  pub alternates : (p : ℕ) → AlternatesStalls m p
  pub one : (j p : ℕ) → ReadsStalls m p j → ReadsOneStall m j p

-- the atomic status is read between two atomic commands
abbrev pub ReadsEachAtomic : Ran → Type 0
ReadsEachAtomic m = (i j p : ℕ) → i < j → IssuesAtomic m i p → IssuesAtomic m j p → Between i j (ReadsAtomic m p)

-- no processor has a DMA fault
abbrev pub HasNoFault : Ran → Type 0
HasNoFault m = (j p : ℕ) (P : Spe) → spe_at m j p ≡ Some P → is_faulted P.status ≡ false

-- every channel that is read or written is channel 12 or one from 16 to 30, no command is a signal, and the host signals nothing
abbrev pub IsSettledChannel : ℕ → Type 0
IsSettledChannel channel = (channel ≡ 12) ⊎ ((16 ≤ channel) × (channel ≤ 30))

pub record KeepsChannels (m : Ran) : Type 0 where
  pub reads : (j p channel : ℕ) → ReadsChannel m j p channel → IsSettledChannel channel
  pub writes : (j p channel value : ℕ) → WritesChannel m j p channel value → IsSettledChannel channel
  pub commands : (j p c : ℕ) (d : Command) → IssuesQueued m j p c d → is_signal d.kind ≡ false
  pub host : (j q register : ℕ) → Notes (trace_in m) j Host (Signal q register) → ⊥

pub record IsSettled (m : Ran) : Type 0 where
  pub counts : CountsNothing m
  pub tags : WaitsForTags m
  pub room : HasRoom m
  pub stalls : HandlesStalls m
  pub atomics : ReadsEachAtomic m
  pub faults : HasNoFault m
  pub channels : KeepsChannels m
