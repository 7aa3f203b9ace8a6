-- Settled runs, place by place: what has to hold where a step is made, by the steps before it.
use Rattle.std.specs.Prelude.{◌≡◌, ℕ, ◌<◌, ◌≤◌, ◌⊎◌, ◌==◌, nat_le, nat_lt, Bool, true, false, not, ◌&&◌, ◌||◌, List, length, Some, take, Contains}
use Rattle.cell_base.specs.declared.steps.ChannelOp.{ChannelOp}
use Rattle.cell_base.specs.declared.steps.ChannelOp.TheVariants.{Read, Count, Write}
use Rattle.cell_base.specs.declared.steps.Step.TheVariants.{Host}
use Rattle.mfc_command.specs.declared.command.Command.{Command}
use Rattle.mfc_command.specs.Order.{is_list}
use Rattle.cell_machine.specs.Spe.{Spe, is_faulted}
use Rattle.cell_machine.specs.Run.{Ran, spe_of}
use Rattle.cell_machine.specs.declared.effect.Note.TheVariants.{Signal}
use Rattle.cell_machine.specs.Transfers.{is_signal}
use Rattle.race_order.specs.Trace.{IsStepOf, Notes}
use Rattle.race_order.specs.Queue.{Has}
use Rattle.race_order.specs.Told.{trace_in}
use Rattle.reorder_laws.specs.OrderedLaws.{IsOrdered}
use Rattle.race_order.specs.declared.progress.Progress.{Progress}
use Rattle.reorder_laws.specs.Places.{Asks, IssuesQueued, IssuesAtomic}

-- ---- operations

abbrev pub is_read_of : ℕ → ChannelOp → Bool
is_read_of channel (Read rt ch) = ch == channel
is_read_of channel (Count rt ch) = false
is_read_of channel (Write ch value) = false

abbrev pub is_write_to : ℕ → ChannelOp → Bool
is_write_to channel (Read rt ch) = false
is_write_to channel (Count rt ch) = false
is_write_to channel (Write ch value) = ch == channel

abbrev pub is_settled_channel : ℕ → Bool
is_settled_channel ch = ch == 12 || (nat_le 16 ch && nat_le ch 30)

-- no count is read, these channels alone are read and written, and a tag status is requested of all groups alone
abbrev pub is_plain : ChannelOp → Bool
is_plain (Count rt ch) = false
is_plain (Read rt ch) = is_settled_channel ch
is_plain (Write ch value) = is_settled_channel ch && (not (ch == 23) || nat_lt 1 value)

-- at place k processor p asks for an operation that passes the test
pub record Does (test : ChannelOp → Bool) (m : Ran) (p k : ℕ) : Type 0 where
  pub op : ChannelOp
  pub asked : Asks m k p op
  pub passes : test op ≡ true

-- a step of the one kind stands below place k, and none of the other between them
pub record Pends (Begins Ends : ℕ → Type 0) (k : ℕ) : Type 0 where
  pub place : ℕ
  pub below : place < k
  pub begins : Begins place
  pub goes_on : (x : ℕ) → place < x → x < k → Ends x → ⊥

-- a tag status was requested and isn't read; the stall status was read and isn't acknowledged; an atomic command was issued and its status isn't read
abbrev pub IsRequested : Ran → ℕ → ℕ → Type 0
IsRequested m p = Pends (Does (is_write_to 23) m p) (Does (is_read_of 24) m p)

abbrev pub IsStallRead : Ran → ℕ → ℕ → Type 0
IsStallRead m p = Pends (Does (is_read_of 25) m p) (Does (is_write_to 26) m p)

abbrev pub IsAtomicIssued : Ran → ℕ → ℕ → Type 0
IsAtomicIssued m p = Pends (λ k. IssuesAtomic m k p) (Does (is_read_of 27) m p)

-- ---- closed commands

-- command c of processor p is complete before the step at place k, and its steps, which are all made by then, are ordered before that
pub record IsShutAt (m : Ran) (p c k : ℕ) : Type 0 where
  pub progress : Progress
  pub has : Has (take k (trace_in m)) p c progress
  pub complete : progress.done ≡ true
  pub ordered : (i : ℕ) → i < k → IsStepOf (trace_in m) i p c → IsOrdered m i k

-- of the commands that processor p issued before place k at most fifteen aren't closed there
pub record AreFewOpen (m : Ran) (p k : ℕ) : Type 0 where
  pub unclosed : List ℕ
  pub few : length unclosed ≤ 15
  pub others : (c : ℕ) (s : Progress) → Has (take k (trace_in m)) p c s → Contains unclosed c ⊎ IsShutAt m p c k

-- command c, which has come so far, is the one list of those that isn't closed, and it is stalled
pub record IsStalledList (m : Ran) (p k c : ℕ) (s : Progress) : Type 0 where
  pub has : Has (take k (trace_in m)) p c s
  pub list : is_list s.command.kind ≡ true
  pub is_open : IsShutAt m p c k → ⊥
  pub only : (d : ℕ) (t : Progress) → Has (take k (trace_in m)) p d t → is_list t.command.kind ≡ true → (d ≡ c) ⊎ IsShutAt m p d k
  pub stalled : s.stalled ≡ true

-- there is such a list
pub record HasStalledList (m : Ran) (p k : ℕ) : Type 0 where
  pub list : ℕ
  pub progress : Progress
  pub is : IsStalledList m p k list progress

-- the tag is that of the list that was stalled at the last read of the stall status, which isn't acknowledged
pub record IsStalledTag (m : Ran) (p k tag : ℕ) : Type 0 where
  pub read : IsStallRead m p k
  pub stalled : HasStalledList m p read.place
  pub same : stalled.progress.command.tag ≡ tag

-- ---- settled runs

-- what is so of a command that processor p queues at place k
pub record MayQueue (m : Ran) (p k : ℕ) (command : Command) : Type 0 where
  pub requested : IsRequested m p k → ⊥
  pub room : AreFewOpen m p k
  pub list : is_list command.kind ≡ true → IsStallRead m p k → ⊥
  pub unsent : is_signal command.kind ≡ false

-- and of a read of the stall status
pub record MayReadStall (m : Ran) (p k : ℕ) : Type 0 where
  pub none : IsStallRead m p k → ⊥
  pub stalled : HasStalledList m p k

-- what is so of processor p at place k of a settled run
pub record IsSettledAt (m : Ran) (p k : ℕ) : Type 0 where
  pub operation : (op : ChannelOp) → Asks m k p op → is_plain op ≡ true
  pub queues : (c : ℕ) (command : Command) → IssuesQueued m k p c command → MayQueue m p k command
  pub stalls : Does (is_read_of 25) m p k → MayReadStall m p k
  pub acknowledges : (tag : ℕ) → Asks m k p (Write 26 tag) → IsStalledTag m p k tag
  pub atomic : IssuesAtomic m k p → IsAtomicIssued m p k → ⊥
  pub host : (q register : ℕ) → Notes (trace_in m) k Host (Signal q register) → ⊥

-- that is so of every processor at every place, and no processor comes to a DMA fault
pub record IsSettledOnline (m : Ran) : Type 0 where
  pub each : (p k : ℕ) → IsSettledAt m p k
  pub faults : (p : ℕ) (P : Spe) → spe_of m p ≡ Some P → is_faulted P.status ≡ false
