-- What the steps of a run leave as it was, and what they add.
use Rattle.std.specs.Prelude.{◌≡◌, ◌≢◌, ℕ, suc, ◌<◌, ◌≤◌, true, false, List, [], ◌∷◌, ◌++◌, length, Option, Some, None, slice_get}
use Rattle.std.specs.Option.{option_map_or}
use Rattle.cell_base.specs.declared.steps.Step.TheVariants.{Exec}
use Rattle.mfc_command.specs.declared.command.Command.{Command}
use Rattle.lock_lines.specs.Versions.{raised}
use Rattle.cell_machine.specs.declared.effect.Note.TheVariants.{Issue, Ack}
use Rattle.cell_machine.specs.Spe.{is_faulted}
use Rattle.cell_machine.specs.Moves.{read_of, is_resumed, is_complete}
use Rattle.cell_machine.specs.Locks.{stored_by}
use Rattle.cell_machine.specs.EffectLaws.{maker}
use Rattle.cell_machine.specs.Order.{is_step_of}
use Rattle.reorder_laws.specs.Recorded.{Recorded, count_of, spe_before, program_of, locking_of, is_exec, is_elem, is_host, is_atomic_step, is_put_note, is_take_note, done_by, retired_by, element_at, is_stalled_number, box_of}
use Rattle.reorder_laws.specs.Boxes.{later_of}

-- no processor is at fault
abbrev pub IsFaultless : Recorded → Type 0
IsFaultless r = (j p : ℕ) → j ≤ r.size → p < count_of r → is_faulted (spe_before r p j).status ≡ false

abbrev pub listed : {X : Type 0} → Option X → List X
listed None = []
listed (Some x) = x ∷ []

-- the step at place i acknowledges the stall of command c of processor p
pub record Acknowledges (r : Recorded) (i p c : ℕ) : Type 0 where
  pub command : Command
  pub is : slice_get (spe_before r p i).moves.issued c ≡ Some command
  pub step : r.step i ≡ Exec p
  pub tag : (r.effect i).note ≡ Ack command.tag
  pub stalled : is_stalled_number (spe_before r p i).moves c ≡ true

-- the step at place i issues the command d of processor p, with number c
pub record Issues (r : Recorded) (i p c : ℕ) (d : Command) : Type 0 where
  pub step : r.step i ≡ Exec p
  pub note : (r.effect i).note ≡ Issue c d

-- of each step at place i, and each processor p
pub record HasFrames (r : Recorded) : Type 0 where
  pub count : (i : ℕ) → i ≤ r.size → length (r.state i).spes ≡ count_of r
  pub program : (i p : ℕ) → i < r.size → p < count_of r → is_exec p (r.step i) ≡ false → program_of (spe_before r p (suc i)) ≡ program_of (spe_before r p i)
  pub elements : (i p c : ℕ) → i < r.size → p < count_of r → is_elem p c (r.step i) ≡ false → read_of (spe_before r p (suc i)).moves.read c ≡ read_of (spe_before r p i).moves.read c
  pub locking : (i p : ℕ) → i < r.size → p < count_of r → is_atomic_step p (r.step i) (r.effect i).note ≡ false → locking_of (spe_before r p (suc i)) ≡ locking_of (spe_before r p i)
  pub host : (i : ℕ) → i < r.size → is_host (r.step i) ≡ false → (r.state (suc i)).host ≡ (r.state i).host
  pub done : (i p : ℕ) → i < r.size → p < count_of r → (spe_before r p (suc i)).moves.done ≡ (spe_before r p i).moves.done ++ listed (done_by p (r.step i))
  pub retired : (i p : ℕ) → i < r.size → p < count_of r → (spe_before r p (suc i)).moves.retired ≡ (spe_before r p i).moves.retired ++ listed (retired_by p (r.step i))
  pub read : (i p : ℕ) → i < r.size → p < count_of r → (spe_before r p (suc i)).moves.read ≡ (spe_before r p i).moves.read ++ listed (element_at r p i)
  pub versions : (i : ℕ) → i < r.size → (r.state (suc i)).memory.versions ≡ option_map_or (raised (r.state i).memory.versions) (stored_by (r.state i) (r.step i)) (r.state i).memory.versions
  pub put : (i p m : ℕ) → i < r.size → p < count_of r → m < 3 → is_put_note p m (r.effect i).note ≡ true → (v : ℕ) × (box_of m (spe_before r p (suc i)) ≡ box_of m (spe_before r p i) ++ v ∷ [])
  pub take : (i p m : ℕ) → i < r.size → p < count_of r → m < 3 → is_take_note p m (r.effect i).note ≡ true
      → (0 < length (box_of m (spe_before r p i))) × (box_of m (spe_before r p (suc i)) ≡ later_of (box_of m (spe_before r p i)))
  pub box : (i p m : ℕ) → i < r.size → p < count_of r → m < 3 → is_put_note p m (r.effect i).note ≡ false → is_take_note p m (r.effect i).note ≡ false → box_of m (spe_before r p (suc i)) ≡ box_of m (spe_before r p i)
  pub own_notes : (i p q m : ℕ) → i < r.size → maker (r.step i) ≡ Some p → q ≢ p → (is_put_note q m (r.effect i).note ≡ false) × (is_take_note q m (r.effect i).note ≡ false)
  pub quiet_notes : (i p c q m : ℕ) → i < r.size → is_step_of p c (r.step i) ≡ true → (is_put_note q m (r.effect i).note ≡ false) × (is_take_note q m (r.effect i).note ≡ false)
  -- commands keep their numbers, and each was issued at some place
  pub grows : (i p : ℕ) → i < r.size → p < count_of r → (later : List Command) × ((spe_before r p (suc i)).moves.issued ≡ (spe_before r p i).moves.issued ++ later)
  pub issued_at : (j p c : ℕ) (d : Command) → j ≤ r.size → p < count_of r → slice_get (spe_before r p j).moves.issued c ≡ Some d → (i : ℕ) × (i < j) × Issues r i p c d
  pub issues : (i p c : ℕ) (d : Command) → i < r.size → p < count_of r → Issues r i p c d → (spe_before r p (suc i)).moves.issued ≡ (spe_before r p i).moves.issued ++ d ∷ []
  pub number : (i p c : ℕ) (d : Command) → i < r.size → p < count_of r → Issues r i p c d → length (spe_before r p i).moves.issued ≡ c
  -- a step is of a command that was issued and isn't complete, and what is complete stays so
  pub there : (i p c : ℕ) → i < r.size → p < count_of r → is_step_of p c (r.step i) ≡ true → (d : Command) × (slice_get (spe_before r p i).moves.issued c ≡ Some d) × (is_complete (spe_before r p i).moves c ≡ false)
  pub stays : (i p c : ℕ) → i < r.size → p < count_of r → is_complete (spe_before r p i).moves c ≡ true → is_complete (spe_before r p (suc i)).moves c ≡ true
  -- stalls are resumed by acknowledgements alone, and a stalled command makes no step
  pub resumed : (i p c e : ℕ) → i < r.size → p < count_of r → (Acknowledges r i p c → ⊥) → is_resumed (spe_before r p (suc i)).moves.resumed c e ≡ is_resumed (spe_before r p i).moves.resumed c e
  pub more_resumed : (i p c e : ℕ) → i < r.size → p < count_of r → is_resumed (spe_before r p i).moves.resumed c e ≡ true → is_resumed (spe_before r p (suc i)).moves.resumed c e ≡ true
  pub rests : (i p c : ℕ) → i < r.size → p < count_of r → is_stalled_number (spe_before r p i).moves c ≡ true → is_step_of p c (r.step i) ≡ false
  pub stalls_on : (i p c : ℕ) → i < r.size → p < count_of r → is_stalled_number (spe_before r p i).moves c ≡ true → (Acknowledges r i p c → ⊥) → is_stalled_number (spe_before r p (suc i)).moves c ≡ true
