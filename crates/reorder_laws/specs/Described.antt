-- A state that is reached by the steps at some places of a run, described by what the run itself shows.
use Rattle.std.specs.Prelude.{◌≡◌, ℕ, ◌<◌, ◌≤◌, true, List, length, drop, fold, if◌then◌else◌, None}
use Rattle.std.specs.List.{filter_map}
use Rattle.tag_groups.specs.Settle.{settled_tags}
use Rattle.lock_lines.specs.Versions.{raised}
use Rattle.cell_machine.specs.Spe.{Spe}
use Rattle.cell_machine.specs.State.{State}
use Rattle.cell_machine.specs.Moves.{busy, read_of}
use Rattle.cell_machine.specs.Locks.{stored_by}
use Rattle.reorder_laws.specs.Cuts.{has, IsCut, Shows}
use Rattle.reorder_laws.specs.Recorded.{Recorded, program_of, listening_of, locking_of, spe_in, spe_before, count_of, is_exec, is_elem, is_host, is_atomic_step, is_put_note, is_take_note, done_by, retired_by, element_at, asked, owes, stalled_groups, box_of, put_values, taken_values}

-- the tags and the stall bits follow from the instructions and from how far the commands have come
pub record ShowsProgram (r : Recorded) (p : ℕ) (D : List ℕ) (P : Spe) : Type 0 where
  pub place : ℕ
  pub within : place ≤ r.size
  pub cut : IsCut r.size (λ i. is_exec p (r.step i)) D place
  pub program : program_of P ≡ program_of (spe_before r p place)
  pub tags : P.tags ≡ settled_tags (busy P.moves) (length P.moves.issued) (record { mask = P.tags.mask; request = asked r p place; status = None })
  pub stalls : P.channels.stalls ≡ (if owes r p place then 0 else stalled_groups P.moves)

-- a mailbox has the values that were put in, less those that were taken
pub record ShowsBox (r : Recorded) (p m : ℕ) (D : List ℕ) (values : List ℕ) : Type 0 where
  pub put_place : ℕ
  pub take_place : ℕ
  pub put_within : put_place ≤ r.size
  pub take_within : take_place ≤ r.size
  pub put_cut : IsCut r.size (λ i. is_put_note p m (r.effect i).note) D put_place
  pub take_cut : IsCut r.size (λ i. is_take_note p m (r.effect i).note) D take_place
  pub values_are : values ≡ drop (taken_values r p m take_place) (put_values r p m put_place)

pub record DescribesSpe (r : Recorded) (p : ℕ) (D : List ℕ) (P : Spe) : Type 0 where
  pub program : ShowsProgram r p D P
  pub read : P.moves.read ≡ filter_map (element_at r p) D
  pub done : P.moves.done ≡ filter_map (λ i. done_by p (r.step i)) D
  pub retired : P.moves.retired ≡ filter_map (λ i. retired_by p (r.step i)) D
  pub elements : (c : ℕ) → Shows r.size (λ i. is_elem p c (r.step i)) (λ j. read_of (spe_before r p j).moves.read c) D (read_of P.moves.read c)
  pub locking : Shows r.size (λ i. is_atomic_step p (r.step i) (r.effect i).note) (λ j. locking_of (spe_before r p j)) D (locking_of P)
  pub boxes : (m : ℕ) → m < 3 → ShowsBox r p m D (box_of m P)
  pub heard : listening_of P ≡ listening_of (spe_before r p 0)  -- pending events are not described

-- all but the bytes
pub record Describes (r : Recorded) (D : List ℕ) (M : State) : Type 0 where
  pub inside : (i : ℕ) → has D i ≡ true → i < r.size
  pub count : length M.spes ≡ count_of r
  pub long : length M.memory.bytes ≡ length (r.state 0).memory.bytes
  pub versions : M.memory.versions ≡ fold raised (r.state 0).memory.versions (filter_map (λ i. stored_by (r.state i) (r.step i)) D)
  pub host : Shows r.size (λ i. is_host (r.step i)) (λ j. (r.state j).host) D M.host
  pub spes : (p : ℕ) → p < count_of r → DescribesSpe r p D (spe_in M p)
