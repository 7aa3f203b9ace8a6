-- The ordered pairs of a run, said by its states.
use Rattle.std.specs.Prelude.{◌≡◌, ℕ, zero, suc, ◌+◌, ◌<◌, ◌≤◌, ◌⊎◌, ◌==◌, if◌then◌else◌, true, length, Some, slice_get, IsBitSet}
use Rattle.cell_base.specs.declared.steps.Step.TheVariants.{Exec, Piece, Elem, Atomic, Host}
use Rattle.mfc_command.specs.declared.command.Command.{Command}
use Rattle.mfc_command.specs.Order.{goes_before}
use Rattle.cell_machine.specs.declared.effect.Note.TheVariants.{Issue, AtomicIssue, TagRead, StallRead, Ack, AtomicRead, Ended, Awaited}
use Rattle.cell_machine.specs.Moves.{read_of}
use Rattle.cell_machine.specs.Order.{is_step_of}
use Rattle.reorder_laws.specs.Recorded.{Recorded, spe_before, is_put_note, is_take_note, is_stalled_number, taken_values}

-- how many values were put into mailbox m of processor q before place j
unfoldable pub puts_before : Recorded → ℕ → ℕ → ℕ → ℕ
puts_before r q m zero = 0
puts_before r q m (suc j) = puts_before r q m j + (if is_put_note q m (r.effect j).note then 1 else 0)

-- at place i element n of command c is read, or a part of it is copied
abbrev pub IsOfElement : Recorded → ℕ → ℕ → ℕ → ℕ → Type 0
IsOfElement r i p c n = ((r.step i ≡ Elem p c) × (length (read_of (spe_before r p i).moves.read c) ≡ n)) ⊎ ((k : ℕ) × (r.step i ≡ Piece p c n k))

-- before place m command c is stalled, and n is the number of the last element that was read
pub record IsStalledAt (r : Recorded) (m p c n : ℕ) : Type 0 where
  pub stalled : is_stalled_number (spe_before r p m).moves c ≡ true
  pub last : length (read_of (spe_before r p m).moves.read c) ≡ n + 1

pub record Orders (Before : ℕ → ℕ → Type 0) (r : Recorded) : Type 0 where
  pub trans : (i k j : ℕ) → Before i k → Before k j → Before i j
  pub below : (i j : ℕ) → Before i j → i < j
  pub program : (i j p : ℕ) → i < j → j < r.size → r.step i ≡ Exec p → r.step j ≡ Exec p → Before i j
  pub script : (i j : ℕ) → i < j → j < r.size → r.step i ≡ Host → r.step j ≡ Host → Before i j
  pub issued : (i j p c : ℕ) (d : Command) → i < j → j < r.size → r.step i ≡ Exec p → (r.effect i).note ≡ Issue c d → is_step_of p c (r.step j) ≡ true → Before i j
  pub atomic_issued : (i j p : ℕ) → i < j → j < r.size → r.step i ≡ Exec p → (r.effect i).note ≡ AtomicIssue → r.step j ≡ Atomic p
      → ((k : ℕ) → i < k → k < j → r.step k ≡ Atomic p → ⊥) → Before i j
  pub next_atomic : (i j p : ℕ) → i < j → j < r.size → r.step i ≡ Atomic p → r.step j ≡ Exec p → (r.effect j).note ≡ AtomicIssue → Before i j
  pub atomic_seen : (i j p : ℕ) → i < j → j < r.size → r.step i ≡ Atomic p → r.step j ≡ Exec p → (r.effect j).note ≡ AtomicRead → Before i j
  pub passed : (i j q m : ℕ) → i < j → j < r.size → is_put_note q m (r.effect i).note ≡ true → is_take_note q m (r.effect j).note ≡ true
      → puts_before r q m i ≡ taken_values r q m j → Before i j
  pub place_free : (i j q m : ℕ) → i < j → j < r.size → is_take_note q m (r.effect i).note ≡ true → is_put_note q m (r.effect j).note ≡ true
      → taken_values r q m i + (if m == 0 then 4 else 1) ≡ puts_before r q m j → Before i j
  pub finished : (i j p : ℕ) → i < j → j < r.size → r.step i ≡ Exec p → (r.effect i).note ≡ Ended → r.step j ≡ Host → (r.effect j).note ≡ Awaited p → Before i j
  pub queue : (i j p c d : ℕ) → i < j → j < r.size → is_step_of p c (r.step i) ≡ true → is_step_of p d (r.step j) ≡ true
      → goes_before (spe_before r p j).moves.issued c d ≡ true → Before i j
  pub element_piece : (i j p c n k : ℕ) → i < j → j < r.size → r.step i ≡ Elem p c → length (read_of (spe_before r p i).moves.read c) ≡ n → r.step j ≡ Piece p c n k → Before i j
  pub next_element : (i j p c n : ℕ) → i < j → j < r.size → IsOfElement r i p c n → r.step j ≡ Elem p c → length (read_of (spe_before r p j).moves.read c) ≡ n + 1 → Before i j
  pub stall_seen : (i m j p c n groups : ℕ) (d : Command) → i < j → j < r.size → IsOfElement r i p c n → m ≤ j → IsStalledAt r m p c n
      → r.step j ≡ Exec p → (r.effect j).note ≡ StallRead groups → slice_get (spe_before r p j).moves.issued c ≡ Some d → IsBitSet groups d.tag → Before i j
  pub resumed : (i j p c : ℕ) (d : Command) → i < j → j < r.size → r.step i ≡ Exec p → is_stalled_number (spe_before r p i).moves c ≡ true → slice_get (spe_before r p i).moves.issued c ≡ Some d
      → (r.effect i).note ≡ Ack d.tag → is_step_of p c (r.step j) ≡ true → Before i j
  pub resumed_earlier : (i j p c b : ℕ) (d : Command) → i < j → j < r.size → r.step i ≡ Exec p → is_stalled_number (spe_before r p i).moves c ≡ true → slice_get (spe_before r p i).moves.issued c ≡ Some d
      → (r.effect i).note ≡ Ack d.tag → is_step_of p b (r.step j) ≡ true → goes_before (spe_before r p j).moves.issued c b ≡ true → Before i j
  pub tag_seen : (i j p c groups count : ℕ) (d : Command) → i < j → j < r.size → is_step_of p c (r.step i) ≡ true → r.step j ≡ Exec p → (r.effect j).note ≡ TagRead groups count
      → slice_get (spe_before r p j).moves.issued c ≡ Some d → IsBitSet groups d.tag → c < count → Before i j

-- the steps of a list whose elements differ are ordered; it follows from the rules on an element and the next one
pub record OrdersElements (Before : ℕ → ℕ → Type 0) (r : Recorded) : Type 0 where
  pub elements : (i j p c : ℕ) → i < j → j < r.size → r.step i ≡ Elem p c → r.step j ≡ Elem p c → Before i j
  pub piece_element : (i j p c e k : ℕ) → i < j → j < r.size → r.step i ≡ Piece p c e k → r.step j ≡ Elem p c → Before i j
  pub element_pieces : (i j p c e k : ℕ) → i < j → j < r.size → r.step i ≡ Elem p c → r.step j ≡ Piece p c e k → Before i j
