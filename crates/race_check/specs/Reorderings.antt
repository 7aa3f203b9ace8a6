-- The orders of a run's steps that keep the ordered pairs, and what it means that they agree.
use Rattle.std.specs.Prelude.{◌≡◌, ℕ, ◌<◌, List, length, Some, slice_get, IsPermutation}
use Rattle.std.specs.List.{range_with_len, filter_map}
use Rattle.cell_machine.specs.Opening.{opening}
use Rattle.cell_machine.specs.Run.{Ran}
use Rattle.cell_machine.specs.Sound.{byte_of}
use Rattle.cell_machine.specs.ByteRuns.{Action, Bytes, byte_run, actions}
use Rattle.cell_machine.specs.Traces.{trace_of}
use Rattle.race_order.specs.Trace.{Trace}
use Rattle.race_order.specs.Rules.{Rule, Ordered}

-- i stands before j in the list
pub record ComesBefore (order : List ℕ) (i j : ℕ) : Type 0 where
  pub here : ℕ
  pub there : ℕ
  pub before : here < there
  pub first : slice_get order here ≡ Some i
  pub second : slice_get order there ≡ Some j

-- all n places, each once, i before j wherever Before says so
pub record KeepsOrder (Before : ℕ → ℕ → Type 0) (n : ℕ) (order : List ℕ) : Type 0 where
  pub each_once : IsPermutation (range_with_len 0 n) order
  pub kept : (i j : ℕ) → i < n → j < n → Before i j → ComesBefore order i j

-- all places of the trace, each once, every step before those that it is ordered before
abbrev pub IsReordering : Trace → List ℕ → Type 0
IsReordering trace order = KeepsOrder (Ordered Rule trace) (length trace) order

-- the entries at these places, in this order
abbrev pub at_places : {X : Type 0} → List X → List ℕ → List X
at_places xs places = filter_map (slice_get xs) places

-- made in this order, each action has what it has in the recorded one, and the same bytes are left
pub record Agrees (start : Bytes) (made : List Action) (order : List ℕ) : Type 0 where
  pub had : (byte_run start (at_places made order)).had ≡ at_places (byte_run start made).had order
  pub bytes : (byte_run start (at_places made order)).bytes ≡ (byte_run start made).bytes

-- so do the actions of the run in every reordering of its trace, on the bytes that the machine begins with
pub record EveryReorderingAgrees (m : Ran) : Type 0 where
  pub trace : Trace
  pub is : trace_of m ≡ Some trace
  pub made : List Action
  pub are : actions (opening m.setup) m.steps ≡ Some made
  pub agree : (order : List ℕ) → IsReordering trace order → Agrees (byte_of (opening m.setup)) made order
