-- The ordered pairs of a run, said by its states; and two laws on the groups of stalled lists.
use Rattle.std.specs.Prelude.{◌≡◌, ◌≢◌, ℕ, ◌<◌, None, ◌≤◌, ◌^◌, ◌+◌, ◌==◌, true, false, length, take, if◌then◌else◌, Some, slice_get, bit_or}
use Rattle.cell_base.specs.declared.steps.Step.TheVariants.{Exec, Atomic}
use Rattle.mfc_command.specs.declared.command.Command.{Command}
use Rattle.cell_machine.specs.declared.effect.Note.TheVariants.{AtomicIssue, AtomicRead}
use Rattle.cell_machine.specs.Spe.{Moves}
use Rattle.cell_machine.specs.Moves.{is_stalled}
use Rattle.cell_machine.specs.Opening.{opening}
use Rattle.cell_machine.specs.Run.{Ran, replay}
pub use Rattle.run_walk.specs.Ordered.{IsOrdered}
use Rattle.race_order.specs.Told.{trace_in}
use Rattle.cell_machine.specs.Traces.{trace_of}
use Rattle.reorder_laws.specs.Recorded.{Recorded, IsRecorded, stalled_groups, is_stalled_number, spe_before, count_of, is_atomic_step, is_put_note, is_take_note, taken_values}
use Rattle.reorder_laws.specs.Frames.{IsFaultless}
use Rattle.reorder_laws.specs.OrderLaws.{Orders, OrdersElements, puts_before}

-- r has the steps of the run m, with their effects and the states before them
pub record IsRecordOf (m : Ran) (r : Recorded) : Type 0 where
  pub size : r.size ≡ length m.steps
  pub told : trace_of m ≡ Some (trace_in m)
  pub at : (j : ℕ) → j ≤ r.size → replay (opening m.setup) (take j m.steps) ≡ Some (r.state j)
  pub event : (j : ℕ) → j < r.size → slice_get (trace_in m) j ≡ Some (record { step = r.step j; effect = r.effect j })

-- the order of its steps keeps these pairs
abbrev pub RunsOrder : Type 0
RunsOrder = (m : Ran) (r : Recorded) → IsRecordOf m r → IsRecorded r → IsFaultless r → Orders (IsOrdered m) r × OrdersElements (IsOrdered m) r

-- a value is taken out of a mailbox that has one, and put into one that has a place for it
pub record BoxesFit (r : Recorded) : Type 0 where
  pub full : (i q m : ℕ) → i < r.size → is_take_note q m (r.effect i).note ≡ true → taken_values r q m i < puts_before r q m i
  pub free : (i q m : ℕ) → i < r.size → is_put_note q m (r.effect i).note ≡ true → puts_before r q m i < taken_values r q m i + (if m == 0 then 4 else 1)

abbrev pub RunsFit : Type 0
RunsFit = (m : Ran) (r : Recorded) → IsRecordOf m r → IsRecorded r → IsFaultless r → BoxesFit r

-- ---- atomic commands

-- an atomic step has an issue before it, with no other atomic step of the processor between them
abbrev pub AtomicsTaken : Recorded → Type 0
AtomicsTaken r = (j p : ℕ) → j < r.size → r.step j ≡ Atomic p
    → (k : ℕ) × (k < j) × (r.step k ≡ Exec p) × ((r.effect k).note ≡ AtomicIssue) × ((y : ℕ) → k < y → y < j → r.step y ≡ Atomic p → ⊥)

-- between two issues the status is read
abbrev pub AtomicsRead : Recorded → Type 0
AtomicsRead r = (i j p : ℕ) → i < j → j < r.size → r.step i ≡ Exec p → (r.effect i).note ≡ AtomicIssue → r.step j ≡ Exec p → (r.effect j).note ≡ AtomicIssue
    → (y : ℕ) × (i < y) × (y < j) × (r.step y ≡ Exec p) × ((r.effect y).note ≡ AtomicRead)

-- at the start no atomic command is there, and no status
abbrev pub NoneAtomic : Recorded → Type 0
NoneAtomic r = (p : ℕ) → p < count_of r → ((spe_before r p 0).channels.slot ≡ None) × ((spe_before r p 0).channels.atomic ≡ None)

-- then these steps of a processor are ordered
abbrev pub AtomicsChain : (ℕ → ℕ → Type 0) → Recorded → Type 0
AtomicsChain Before r = (i j p : ℕ) → i < j → j < r.size → is_atomic_step p (r.step i) (r.effect i).note ≡ true → is_atomic_step p (r.step j) (r.effect j).note ≡ true → Before i j

abbrev pub RunsChainAtomics : Type 0
RunsChainAtomics = (m : Ran) (r : Recorded) → IsRecordOf m r → IsRecorded r → IsFaultless r → AtomicsRead r → AtomicsChain (IsOrdered m) r

-- where a step lets one command stall at most, the groups get that command's bit at most
abbrev pub StalledMore : Type 0
StalledMore = (m n : Moves) (c : ℕ) (d : Command) → n.issued ≡ m.issued → slice_get m.issued c ≡ Some d → is_stalled m c d ≡ false → ((b : ℕ) → b ≢ c → is_stalled_number n b ≡ is_stalled_number m b)
    → stalled_groups n ≡ (if is_stalled n c d then bit_or (stalled_groups m) (2 ^ d.tag) else stalled_groups m)

-- where one command alone is stalled, they are its group
abbrev pub StalledOne : Type 0
StalledOne = (m : Moves) (c : ℕ) (d : Command) → slice_get m.issued c ≡ Some d → is_stalled m c d ≡ true → ((b : ℕ) → b ≢ c → is_stalled_number m b ≡ false)
    → stalled_groups m ≡ 2 ^ d.tag
