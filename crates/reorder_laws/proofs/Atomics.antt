-- The atomic commands of a processor, with their issues and the reads of their statuses, are ordered.
use Rattle.std.proofs.Common.{◌≡◌, ℕ, zero, suc, ◌+◌, ◌-◌, ◌<◌, ◌≤◌, refl, sym, ◌∙◌, ap, arith, true≢false, ◌⊎◌, inl, inr}
use Rattle.std.specs.Prelude.{Option, Some, None, is_some, slice_get, Bool, true, false, ◌&&◌, ◌==◌}
use Rattle.std.proofs.lemmas.Bool.{cases_order, cases_eq}
use Rattle.cell_base.specs.declared.steps.Step.{Step}
use Rattle.cell_base.specs.declared.steps.Step.TheVariants.{Exec, Piece, Elem, Retire, Atomic, Host}
use Rattle.mfc_command.specs.declared.command.AtomicOp.{AtomicOp}
use Rattle.cell_machine.specs.declared.effect.Note.{Note}
use Rattle.cell_machine.specs.declared.effect.Note.TheVariants.{AtomicIssue, AtomicRead}
use Rattle.cell_machine.specs.Spe.{Spe}
use Rattle.cell_machine.specs.Memory.{MainMemory, lines_of}
use Rattle.cell_machine.specs.EffectLaws.{maker}
use Rattle.cell_machine.proofs.Same.{some_same, eq_same, eq_is}
use Rattle.cell_machine.proofs.Staying.{both}
use Rattle.cell_machine.proofs.StepBytes.{none_is}
use Rattle.reorder_laws.specs.Deeds.{Did, Ends, Goes, Plain, SetParams, SetMask, AskTags, TakeTags, TakeStalls, TakeAtomic, TakeValue, Queue, FillSlot, Resume, PutValue, PutInterrupt, TakeSignal, LeaveEvents, did, note_of, exec_deed}
use Rattle.reorder_laws.specs.Happens.{Happens, Passes, Executes, Copies, Reads, Faults, Retires, Answers, Hosts, HostPasses}
use Rattle.reorder_laws.proofs.SameDeeds.{exec-finds}
use Rattle.reorder_laws.specs.Recorded.{Recorded, IsRecorded, Locking, spe_before, count_of, locking_of, is_atomic_step, is_atomic_note}
use Rattle.reorder_laws.specs.OrderLaws.{Orders}
use Rattle.reorder_laws.specs.Frames.{IsFaultless, HasFrames}
use Rattle.reorder_laws.specs.OrderedLaws.{IsOrdered, AtomicsTaken, AtomicsRead, AtomicsChain, NoneAtomic, IsRecordOf, RunsChainAtomics}
use Rattle.reorder_laws.proofs.Frames.{happens-at, maker-low, spe-at, runs-have_frames}
use Rattle.reorder_laws.proofs.Ordering.{orders, atomics-taken}
use Rattle.std.specs.List.{enumerate_from}
use Rattle.cell_machine.specs.State.{State}
use Rattle.cell_machine.specs.Opening.{opening, opening_spe}
use Rattle.cell_machine.specs.Run.{Ran}
use Rattle.cell_machine.proofs.Bounds.{map-got}
use Rattle.reorder_laws.proofs.CommandFrames.{exec-only}

-- ---- what an issue and a read do

record IsFill (P Q : Spe) : Type 0 where
  free : P.channels.slot ≡ None
  op : AtomicOp
  filled : Q.channels.slot ≡ Some op
  status : Q.channels.atomic ≡ P.channels.atomic

fill_is : (p lines : ℕ) (d : Did) (P : Spe) → exec_deed lines P ≡ Some d → note_of p d ≡ AtomicIssue → IsFill P (did d P)
fill_is p lines (Ends status x) P made h = absurd (cc)
fill_is p lines (Goes x Plain) P made h = absurd (cc)
fill_is p lines (Goes x (SetParams y)) P made h = absurd (cc)
fill_is p lines (Goes x (SetMask y)) P made h = absurd (cc)
fill_is p lines (Goes x (TakeSignal y)) P made h = absurd (cc)
fill_is p lines (Goes x (LeaveEvents y)) P made h = absurd (cc)
fill_is p lines (Goes x (AskTags y)) P made h = absurd (cc)
fill_is p lines (Goes x (TakeTags y)) P made h = absurd (cc)
fill_is p lines (Goes x (TakeStalls y)) P made h = absurd (cc)
fill_is p lines (Goes x TakeAtomic) P made h = absurd (cc)
fill_is p lines (Goes x TakeValue) P made h = absurd (cc)
fill_is p lines (Goes x (Queue n y)) P made h = absurd (cc)
fill_is p lines (Goes x (FillSlot y)) P made h = record { free = (exec-finds lines P (Goes x (FillSlot y)) made).0; op = y; filled = refl; status = refl }
fill_is p lines (Goes x (Resume t y)) P made h = absurd (cc)
fill_is p lines (Goes x (PutValue y)) P made h = absurd (cc)
fill_is p lines (Goes x (PutInterrupt y)) P made h = absurd (cc)

record IsRead (P Q : Spe) : Type 0 where
  there : is_some P.channels.atomic ≡ true
  gone : Q.channels.atomic ≡ None
  slot : Q.channels.slot ≡ P.channels.slot

read_is : (p lines : ℕ) (d : Did) (P : Spe) → exec_deed lines P ≡ Some d → note_of p d ≡ AtomicRead → IsRead P (did d P)
read_is p lines (Ends status x) P made h = absurd (cc)
read_is p lines (Goes x Plain) P made h = absurd (cc)
read_is p lines (Goes x (SetParams y)) P made h = absurd (cc)
read_is p lines (Goes x (SetMask y)) P made h = absurd (cc)
read_is p lines (Goes x (TakeSignal y)) P made h = absurd (cc)
read_is p lines (Goes x (LeaveEvents y)) P made h = absurd (cc)
read_is p lines (Goes x (AskTags y)) P made h = absurd (cc)
read_is p lines (Goes x (TakeTags y)) P made h = absurd (cc)
read_is p lines (Goes x (TakeStalls y)) P made h = absurd (cc)
read_is p lines (Goes x TakeAtomic) P made h = record { there = (exec-finds lines P (Goes x TakeAtomic) made).0; gone = refl; slot = refl }
read_is p lines (Goes x TakeValue) P made h = absurd (cc)
read_is p lines (Goes x (Queue n y)) P made h = absurd (cc)
read_is p lines (Goes x (FillSlot y)) P made h = absurd (cc)
read_is p lines (Goes x (Resume t y)) P made h = absurd (cc)
read_is p lines (Goes x (PutValue y)) P made h = absurd (cc)
read_is p lines (Goes x (PutInterrupt y)) P made h = absurd (cc)

record IsAnswer (P Q : Spe) : Type 0 where
  op : AtomicOp
  filled : P.channels.slot ≡ Some op
  free : Q.channels.slot ≡ None

answer_is : (memory : MainMemory) (s : Step) (note : Note) (p : ℕ) (P Q : Spe) → Happens memory s note p P Q → s ≡ Atomic p → IsAnswer P Q
answer_is memory s note p P Q (Passes q by ne is) st = absurd (ne (some_same q p (sym by ∙ ap maker st)))
answer_is memory s note p P Q (Executes d st2 made told is) st = let e = sym st2 ∙ st in absurd (cc)
answer_is memory s note p P Q (Copies c e k d x store st2 at has there number told is) st = let e = sym st2 ∙ st in absurd (cc)
answer_is memory s note p P Q (Reads c d x st2 at has el told is) st = let e = sym st2 ∙ st in absurd (cc)
answer_is memory s note p P Q (Faults c d kind st2 at has told is) st = let e = sym st2 ∙ st in absurd (cc)
answer_is memory s note p P Q (Retires c d st2 at left told is) st = let e = sym st2 ∙ st in absurd (cc)
answer_is memory s note p P Q (Answers a store st2 slot told is) st = record { op = a; filled = slot; free = ap (λ (K : Spe). K.channels.slot) is }
answer_is memory s note p P Q (Hosts a st2 of may told is) st = let e = sym st2 ∙ st in absurd (cc)
answer_is memory s note p P Q (HostPasses a st2 of told is) st = let e = sym st2 ∙ st in absurd (cc)

-- ---- the three kinds of steps

pub data Kind (p : ℕ) (s : Step) (note : Note) : Type 0 where
  Issue : s ≡ Exec p → note ≡ AtomicIssue → Kind p s note
  Reading : s ≡ Exec p → note ≡ AtomicRead → Kind p s note
  Doing : s ≡ Atomic p → Kind p s note

note_kind : (p : ℕ) (s : Step) (note : Note) → s ≡ Exec p → is_atomic_note note ≡ true → Kind p s note
note_kind p s AtomicIssue st h = Issue st refl
note_kind p s AtomicRead st h = Reading st refl
note_kind p s _ st h = absurd (true≢false (sym h))

kind_of : (p : ℕ) (s : Step) (note : Note) → is_atomic_step p s note ≡ true → Kind p s note
kind_of p (Exec q) note h = let two = both (q == p) (is_atomic_note note) h in note_kind p (Exec q) note (ap Exec (eq_is q p two.0)) two.1
kind_of p (Piece q c e k) note h = absurd (true≢false (sym h))
kind_of p (Elem q c) note h = absurd (true≢false (sym h))
kind_of p (Retire q c) note h = absurd (true≢false (sym h))
kind_of p (Atomic q) note h = Doing (ap Atomic (eq_is q p h))
kind_of p Host note h = absurd (true≢false (sym h))

none_some : (X : Type 0) (a : AtomicOp) (o : Option AtomicOp) → o ≡ None → o ≡ Some a → X
none_some X a o h g = none_is X a (sym h ∙ g)

module _ (r : Recorded) (rec : IsRecorded r) (sound : IsFaultless r) (frames : HasFrames r) (Before : ℕ → ℕ → Type 0) (orders : Orders Before r) (taken : AtomicsTaken r) (reads : AtomicsRead r) (start : NoneAtomic r) where
  exec_low : (x p : ℕ) → x < r.size → r.step x ≡ Exec p → p < count_of r
  exec_low x p h is = maker-low r rec sound x p h (ap maker is)

  fill_at : (x p : ℕ) → x < r.size → r.step x ≡ Exec p → (r.effect x).note ≡ AtomicIssue → IsFill (spe_before r p x) (spe_before r p (suc x))
  fill_at x p h st note =
      let d = exec-only (r.state x).memory (r.step x) (r.effect x).note p (spe_before r p x) (spe_before r p (suc x)) (happens-at r rec sound x p h (exec_low x p h st)) st in
      let f = fill_is p (lines_of (r.state x).memory) d.deed (spe_before r p x) d.made (sym d.told ∙ note) in
      record { free = f.free; op = f.op; filled = ap (λ (K : Spe). K.channels.slot) d.is ∙ f.filled; status = ap (λ (K : Spe). K.channels.atomic) d.is ∙ f.status }

  read_at : (x p : ℕ) → x < r.size → r.step x ≡ Exec p → (r.effect x).note ≡ AtomicRead → IsRead (spe_before r p x) (spe_before r p (suc x))
  read_at x p h st note =
      let d = exec-only (r.state x).memory (r.step x) (r.effect x).note p (spe_before r p x) (spe_before r p (suc x)) (happens-at r rec sound x p h (exec_low x p h st)) st in
      let f = read_is p (lines_of (r.state x).memory) d.deed (spe_before r p x) d.made (sym d.told ∙ note) in
      record { there = f.there; gone = ap (λ (K : Spe). K.channels.atomic) d.is ∙ f.gone; slot = ap (λ (K : Spe). K.channels.slot) d.is ∙ f.slot }

  answer_at : (x p : ℕ) → x < r.size → r.step x ≡ Atomic p → IsAnswer (spe_before r p x) (spe_before r p (suc x))
  answer_at x p h st = answer_is (r.state x).memory (r.step x) (r.effect x).note p (spe_before r p x) (spe_before r p (suc x)) (happens-at r rec sound x p h (maker-low r rec sound x p h (ap maker st))) st

  -- an issue, behind which no status was read before x
  record Unread (x p : ℕ) : Type 0 where
    place : ℕ
    low : place < x
    step : r.step place ≡ Exec p
    issue : (r.effect place).note ≡ AtomicIssue
    unread : (y : ℕ) → place < y → y < x → r.step y ≡ Exec p → (r.effect y).note ≡ AtomicRead → ⊥

  -- no status is unread, or none is in the slot; and what is there was issued with no read behind it
  abbrev State_at : ℕ → ℕ → Type 0
  State_at x p = (((spe_before r p x).channels.atomic ≡ None) × (((spe_before r p x).channels.slot ≡ None) ⊎ Unread x p)) ⊎ (((spe_before r p x).channels.slot ≡ None) × Unread x p)

  longer : (x p : ℕ) → (r.step x ≡ Exec p → (r.effect x).note ≡ AtomicRead → ⊥) → Unread x p → Unread (suc x) p
  longer x p quiet u = record {
    place = u.place;
    low = let l = u.low in omega (arith, l);
    step = u.step;
    issue = u.issue;
    unread = λ y above below st note. elim (cases_eq y x) [
      | inl same ↦ quiet (ap r.step (sym same) ∙ st) (ap (λ k. (r.effect k).note) (sym same) ∙ note)
      | inr ne ↦ u.unread y above (omega (arith, below, ne)) st note
    ];
  }

  state_at : (x p : ℕ) → x ≤ r.size → p < count_of r → State_at x p
  state_at zero p h low = let s = start p low in inl (s.1, inl s.0)
  state_at (suc x) p h low = on (is_atomic_step p (r.step x) (r.effect x).note) refl (state_at x p (omega (arith, h)) low)
    where
      inside : x < r.size
      inside = omega (arith, h)

      moved : locking_of (spe_before r p (suc x)) ≡ locking_of (spe_before r p x) → (r.step x ≡ Exec p → (r.effect x).note ≡ AtomicRead → ⊥) → State_at x p → State_at (suc x) p
      moved same quiet (inl (status, inl free)) = inl (ap (λ (l : Locking). l.atomic) same ∙ status, inl (ap (λ (l : Locking). l.slot) same ∙ free))
      moved same quiet (inl (status, inr u)) = inl (ap (λ (l : Locking). l.atomic) same ∙ status, inr (longer x p quiet u))
      moved same quiet (inr (free, u)) = inr (ap (λ (l : Locking). l.slot) same ∙ free, longer x p quiet u)

      here : r.step x ≡ Exec p → (r.effect x).note ≡ AtomicIssue → Unread (suc x) p
      here st note = record { place = x; low = omega arith; step = st; issue = note; unread = λ y above below s n. absurd (omega (arith, above, below)) }

      by : Kind p (r.step x) (r.effect x).note → State_at x p → State_at (suc x) p
      by (Issue st note) (inl (status, rest)) = inl ((fill_at x p inside st note).status ∙ status, inr (here st note))
      by (Issue st note) (inr (free, u)) =
          let y = reads u.place x p u.low inside u.step u.issue st note in
          absurd (u.unread y.0 y.1 y.2 y.3 y.4)
      by (Reading st note) (inl (status, rest)) = absurd (true≢false (sym (read_at x p inside st note).there ∙ ap is_some status))
      by (Reading st note) (inr (free, u)) = let f = read_at x p inside st note in inl (f.gone, inl (f.slot ∙ free))
      by (Doing st) (inl (status, inl free)) = let f = answer_at x p inside st in none_some _ f.op (spe_before r p x).channels.slot free f.filled
      by (Doing st) (inl (status, inr u)) = inr ((answer_at x p inside st).free, longer x p (λ s n. differs (sym s ∙ st)) u)
        where
          differs : Exec p ≡ Atomic p → ⊥
          differs e = cc
      by (Doing st) (inr (free, u)) = let f = answer_at x p inside st in none_some _ f.op (spe_before r p x).channels.slot free f.filled

      on : (b : Bool) → is_atomic_step p (r.step x) (r.effect x).note ≡ b → State_at x p → State_at (suc x) p
      on true e was = by (kind_of p (r.step x) (r.effect x).note e) was
      on false e was =
          moved (frames.locking x p inside low e)
          (λ st note. true≢false (sym (ap (λ s. is_atomic_step p s (r.effect x).note) st ∙ ap (λ n. (p == p) && is_atomic_note n) note ∙ ap (λ b. b && true) (eq_same p)) ∙ e)) was

  -- behind an issue the slot is taken until the atomic step
  slot_stays : (n k p : ℕ) → suc k + n ≤ r.size → r.step k ≡ Exec p → (r.effect k).note ≡ AtomicIssue → ((y : ℕ) → k < y → y < suc k + n → r.step y ≡ Atomic p → ⊥) → (a : AtomicOp) × ((spe_before r p (suc k + n)).channels.slot ≡ Some a)
  slot_stays zero k p h st note none =
      let e : suc k + 0 ≡ suc k = omega arith in
      let f = fill_at k p (omega (arith, h)) st note in
      (f.op, ap (λ x. (spe_before r p x).channels.slot) e ∙ f.filled)
  slot_stays (suc n) k p h st note none = on (slot_stays n k p (omega (arith, h)) st note (λ y a b. none y a (omega (arith, b)))) (is_atomic_step p (r.step (suc k + n)) (r.effect (suc k + n)).note) refl
    where
      e : suc k + suc n ≡ suc (suc k + n)
      e = omega arith

      inside : suc k + n < r.size
      inside = omega (arith, h)

      by : (a : AtomicOp) × ((spe_before r p (suc k + n)).channels.slot ≡ Some a) → Kind p (r.step (suc k + n)) (r.effect (suc k + n)).note → (a : AtomicOp) × ((spe_before r p (suc k + suc n)).channels.slot ≡ Some a)
      by was (Issue s i) = none_some _ was.0 (spe_before r p (suc k + n)).channels.slot (fill_at (suc k + n) p inside s i).free was.1
      by was (Reading s i) = (was.0, ap (λ x. (spe_before r p x).channels.slot) e ∙ (read_at (suc k + n) p inside s i).slot ∙ was.1)
      by was (Doing s) = absurd (none (suc k + n) (omega arith) (omega arith) s)

      on : (a : AtomicOp) × ((spe_before r p (suc k + n)).channels.slot ≡ Some a) → (b : Bool) → is_atomic_step p (r.step (suc k + n)) (r.effect (suc k + n)).note ≡ b → (a : AtomicOp) × ((spe_before r p (suc k + suc n)).channels.slot ≡ Some a)
      on was true f = by was (kind_of p (r.step (suc k + n)) (r.effect (suc k + n)).note f)
      on was false f =
          (was.0, ap (λ x. (spe_before r p x).channels.slot) e ∙ ap (λ (l : Locking). l.slot) (frames.locking (suc k + n) p inside (exec_low k p (omega (arith, h)) st) f) ∙ was.1)

  pub chain : AtomicsChain Before r
  chain i j p h low a b = on (kind_of p (r.step i) (r.effect i).note a) (kind_of p (r.step j) (r.effect j).note b)
    where
      low_i : i < r.size
      low_i = omega (arith, h, low)

      differs : Exec p ≡ Atomic p → ⊥
      differs e = cc

      notes : AtomicIssue ≡ AtomicRead → ⊥
      notes e = cc

      on : Kind p (r.step i) (r.effect i).note → Kind p (r.step j) (r.effect j).note → Before i j
      on (Issue s n) (Issue t o) = orders.program i j p h low s t
      on (Issue s n) (Reading t o) = orders.program i j p h low s t
      on (Reading s n) (Issue t o) = orders.program i j p h low s t
      on (Reading s n) (Reading t o) = orders.program i j p h low s t
      on (Doing s) (Issue t o) = orders.next_atomic i j p h low s t o
      on (Doing s) (Reading t o) = orders.atomic_seen i j p h low s t o
      on (Doing s) (Doing t) =
          let k = taken j p low t in
          let l = k.1 in
          elim (cases_order i k.0) [
            | inl same ↦ absurd (differs (sym k.2 ∙ ap r.step (sym same) ∙ s))
            | inr (inl less) ↦ orders.trans i k.0 j (orders.next_atomic i k.0 p less (omega (arith, l, low)) s k.2 k.3) (orders.atomic_issued k.0 j p l low k.2 k.3 t k.4)
            | inr (inr more) ↦ absurd (k.4 i more h s)
          ]
      on (Issue s n) (Doing t) =
          let k = taken j p low t in
          let l = k.1 in
          elim (cases_order i k.0) [
            | inl same ↦ orders.atomic_issued i j p h low s n t (λ y above below. k.4 y (omega (arith, above, same)) below)
            | inr (inl less) ↦ orders.trans i k.0 j (orders.program i k.0 p less (omega (arith, l, low)) s k.2) (orders.atomic_issued k.0 j p l low k.2 k.3 t k.4)
            | inr (inr more) ↦ orders.atomic_issued i j p h low s n t (λ y above below. k.4 y (omega (arith, above, more)) below)
          ]
      on (Reading s n) (Doing t) =
          let k = taken j p low t in
          let l = k.1 in
          elim (cases_order i k.0) [
            | inl same ↦ absurd (notes (sym k.3 ∙ ap (λ x. (r.effect x).note) (sym same) ∙ n))
            | inr (inl less) ↦ orders.trans i k.0 j (orders.program i k.0 p less (omega (arith, l, low)) s k.2) (orders.atomic_issued k.0 j p l low k.2 k.3 t k.4)
            | inr (inr more) ↦ absurd (between k.0 more k.2 k.3 k.4)
          ]
        where
          refuse : State_at i p → (a : AtomicOp) → (spe_before r p i).channels.slot ≡ Some a → is_some (spe_before r p i).channels.atomic ≡ true → ⊥
          refuse (inl (status, rest)) a filled there = true≢false (sym there ∙ ap is_some status)
          refuse (inr (free, u)) a filled there = none_some ⊥ a (spe_before r p i).channels.slot free filled

          between : (k : ℕ) → k < i → r.step k ≡ Exec p → (r.effect k).note ≡ AtomicIssue → ((y : ℕ) → k < y → y < j → r.step y ≡ Atomic p → ⊥) → ⊥
          between k more st note none =
              let e : suc k + (i - suc k) ≡ i = omega (arith, more) in
              let f = slot_stays (i - suc k) k p (omega (arith, more, low_i)) st note (λ y above below. none y above (omega (arith, below, more, h))) in
              let filled : (spe_before r p i).channels.slot ≡ Some f.0 = ap (λ x. (spe_before r p x).channels.slot) (sym e) ∙ f.1 in
              refuse (state_at i p (omega (arith, low_i)) (exec_low i p low_i s)) f.0 filled (read_at i p low_i s n).there

-- ---- a run

start_none : (m : Ran) (r : Recorded) → IsRecordOf m r → IsRecorded r → IsFaultless r → NoneAtomic r
unfolding opening
start_none m r of rec sound p low =
    let same : opening m.setup ≡ r.state 0 = some_same (opening m.setup) (r.state 0) (of.at 0 (omega arith)) in
    let at : slice_get (opening m.setup).spes p ≡ Some (spe_before r p 0) = ap (λ (S : State). slice_get S.spes p) same ∙ spe-at r rec sound 0 p (omega arith) low in
    let g = map-got (opening_spe m.setup) (enumerate_from 0 m.setup.entries) p (spe_before r p 0) at in
    (ap (λ (K : Spe). K.channels.slot) (sym g.2), ap (λ (K : Spe). K.channels.atomic) (sym g.2))

pub runs-chain_atomics : RunsChainAtomics
runs-chain_atomics m r of rec sound reads =
    chain r rec sound (runs-have_frames r rec sound) (IsOrdered m) (orders m r of rec sound) (atomics-taken m r of rec sound) reads (start_none m r of rec sound)
