-- An atomic command, in another order.
use Rattle.std.proofs.Common.{◌≡◌, ℕ, suc, ◌+◌, ◌*◌, ◌/◌, ◌<◌, refl, sym, ◌∙◌, ap, ap₂, subst, arith, true, false, List, [], ◌∷◌, ◌++◌, length, Option, Some, None, cond}
use Rattle.std.specs.Prelude.{slice_get, slice_range, option_and_then}
use Rattle.std.specs.List.{range_with_len}
use Rattle.std.specs.Option.{option_map, option_map_or}
use Rattle.cell_base.specs.Bytes.{put}
use Rattle.cell_base.specs.declared.steps.Step.TheVariants.{Atomic}
use Rattle.mfc_command.specs.declared.command.AtomicOp.{AtomicOp}
use Rattle.lock_lines.specs.Versions.{Reserved, raised, version_of}
use Rattle.tag_groups.specs.declared.Tags.{Tags}
use Rattle.tag_groups.specs.Settle.{settled_tags}
use Rattle.cell_machine.specs.declared.effect.Effect.{Effect}
use Rattle.cell_machine.specs.Spe.{Spe, Moves}
use Rattle.cell_machine.specs.State.{State}
use Rattle.cell_machine.specs.Memory.{MainMemory, stored}
use Rattle.cell_machine.specs.Moves.{busy, read_of}
use Rattle.cell_machine.specs.Tags.{settled}
use Rattle.cell_machine.specs.Transfers.{Left}
use Rattle.cell_machine.specs.Next.{own}
use Rattle.cell_machine.specs.Atomic.{Fate, Got, Stored, Lost, atomic, may_atomic, answered, fate}
use Rattle.cell_machine.specs.Locks.{stored_by, stored_by_fate, stored_by_atomic}
use Rattle.cell_machine.specs.Effects.{line_effect}
use Rattle.cell_machine.specs.EffectLaws.{maker}
use Rattle.cell_machine.specs.Written.{Given, written_by, line_written}
use Rattle.cell_machine.proofs.Same.{eq_same}
use Rattle.cell_machine.proofs.StepBytes.{own_effect, atomic-is}
use Rattle.reorder_laws.specs.Controllers.{line_left, SeesAtomic, AllowsAtomic}
use Rattle.reorder_laws.proofs.Controlling.{atomic-made, atomics-allowed, line_is}
use Rattle.reorder_laws.specs.Cuts.{IsFront, IsCut}
use Rattle.reorder_laws.specs.Recorded.{Recorded, IsRecorded, Locking, count_of, spe_in, spe_before, program_of, listening_of, locking_of, is_exec, is_elem, is_atomic_step, is_put_note, is_take_note, done_by, retired_by, element_by, element_at, asked, owes, stalled_groups, box_of}
use Rattle.reorder_laws.specs.OrderLaws.{Orders}
use Rattle.reorder_laws.specs.Frames.{HasFrames, IsFaultless}
use Rattle.reorder_laws.proofs.Frames.{spe-at}
use Rattle.reorder_laws.specs.Described.{Describes, DescribesSpe, ShowsBox}
use Rattle.reorder_laws.specs.Steps.{HasSameSpans, HasSameBytes, MakesStep}
use Rattle.reorder_laws.proofs.Cuts.{cut_front, cut_skip, shown_at, shows_step, shows_skip}
use Rattle.reorder_laws.proofs.After.{get_in, settled_here, map_same}
use Rattle.reorder_laws.proofs.Commands.{sound_there}
use Rattle.reorder_laws.proofs.Making.{IsOwn, is_own, made_in}

-- the atomic commands of a processor, with their issues and the reads of their status, are ordered
abbrev pub AtomicsChain : (ℕ → ℕ → Type 0) → Recorded → Type 0
AtomicsChain Before r = (i j p : ℕ) → i < j → j < r.size → is_atomic_step p (r.step i) (r.effect i).note ≡ true → is_atomic_step p (r.step j) (r.effect j).note ≡ true → Before i j

-- what an atomic command tells of bytes looks at what it leaves for the tags alone
line_spans : (p : ℕ) (a : AtomicOp) (P Q : Spe) (f : Fate) (e : Effect) → e ≡ line_effect p a Q f → HasSameSpans (line_effect p a P f) e
line_spans p a P Q Got e h = record { fetch = sym (ap (λ (x : Effect). x.fetch) h); reads = sym (ap (λ (x : Effect). x.reads) h); writes = sym (ap (λ (x : Effect). x.writes) h) }
line_spans p a P Q Stored e h = record { fetch = sym (ap (λ (x : Effect). x.fetch) h); reads = sym (ap (λ (x : Effect). x.reads) h); writes = sym (ap (λ (x : Effect). x.writes) h) }
line_spans p a P Q Lost e h = record { fetch = sym (ap (λ (x : Effect). x.fetch) h); reads = sym (ap (λ (x : Effect). x.reads) h); writes = sym (ap (λ (x : Effect). x.writes) h) }

-- what it leaves, but for bytes
record IsAnswered (m : MainMemory) (P Q : Spe) (a : AtomicOp) : Type 0 where
  program : program_of Q ≡ program_of P
  tags : Q.tags ≡ P.tags
  moves : Q.moves ≡ P.moves
  stalls : Q.channels.stalls ≡ P.channels.stalls
  boxes : (k : ℕ) → box_of k Q ≡ box_of k P
  locking : locking_of Q ≡ locking_of (answered m P a)
  heard : listening_of Q ≡ listening_of P

is_answered : (m : MainMemory) (P : Spe) (a : AtomicOp) (f : Fate) → IsAnswered m P (line_left m P a f).spe a
is_answered m P a Got = record { program = refl; tags = refl; moves = refl; stalls = refl; boxes = λ k. refl; locking = refl; heard = refl }
is_answered m P a Stored = record { program = refl; tags = refl; moves = refl; stalls = refl; boxes = λ k. refl; locking = refl; heard = refl }
is_answered m P a Lost = record { program = refl; tags = refl; moves = refl; stalls = refl; boxes = λ k. refl; locking = refl; heard = refl }

left_unsent : (m : MainMemory) (P : Spe) (a : AtomicOp) (f : Fate) → (line_left m P a f).sent ≡ None
left_unsent m P a Got = refl
left_unsent m P a Stored = refl
left_unsent m P a Lost = refl

left_versions : (m : MainMemory) (P : Spe) (a : AtomicOp) (f : Fate) → (line_left m P a f).memory.versions ≡ option_map_or (raised m.versions) (stored_by_fate f a.line) m.versions
unfolding stored
left_versions m P a Got = refl
left_versions m P a Stored = ap (raised m.versions) (let e : 128 * a.line / 128 ≡ a.line = omega arith in e)
left_versions m P a Lost = refl

left_bytes : (m n : MainMemory) (P K : Spe) (a : AtomicOp) (f : Fate) → m.bytes ≡ n.bytes → P.store ≡ K.store → (line_left m P a f).memory.bytes ≡ (line_left n K a f).memory.bytes
unfolding stored
left_bytes m n P K a Got bytes store = bytes
left_bytes m n P K a Stored bytes store = ap₂ (λ b s. put b (128 * a.line) (slice_range s a.ls (a.ls + 128))) bytes store
left_bytes m n P K a Lost bytes store = bytes

-- what the step stores to, and where the bytes come from
stored_there : (M : State) (p : ℕ) (P : Spe) (a : AtomicOp) → slice_get M.spes p ≡ Some P → P.channels.slot ≡ Some a → stored_by M (Atomic p) ≡ stored_by_fate (fate M.memory P a) a.line
stored_there M p P a at slot = ap (option_and_then (λ P. option_and_then (stored_by_atomic M.memory P) P.channels.slot)) at ∙ ap (option_and_then (stored_by_atomic M.memory P)) slot

wrote_there : (M : State) (p : ℕ) (P : Spe) (a : AtomicOp) → slice_get M.spes p ≡ Some P → P.channels.slot ≡ Some a → written_by M (Atomic p) ≡ line_written (fate M.memory P a)
unfolding written_by
wrote_there M p P a at slot =
    ap (λ o. option_map_or (λ (P : Spe). option_map_or (λ a. line_written (fate M.memory P a)) P.channels.slot (Given [])) o (Given [])) at
    ∙ ap (λ o. option_map_or (λ a. line_written (fate M.memory P a)) o (Given [])) slot

module _ (r : Recorded) (rec : IsRecorded r) (frames : HasFrames r) (faultless : IsFaultless r) (Before : ℕ → ℕ → Type 0) (orders : Orders Before r) (chain : AtomicsChain Before r)
    (D : List ℕ) (j : ℕ) (M : State) (front : IsFront Before r.size D j) (describes : Describes r D M) (shown : Describes r (range_with_len 0 j) (r.state j)) (same_bytes : HasSameBytes M (r.state j)) (p : ℕ) (step_is : r.step j ≡ Atomic p)
    (version : (a : AtomicOp) → (spe_before r p j).channels.slot ≡ Some a → version_of M.memory.versions a.line ≡ version_of (r.state j).memory.versions a.line) where
  low : j < r.size
  low = front.low

  abbrev A : State
  A = r.state j

  abbrev K : Spe
  K = spe_before r p j

  abbrev P : Spe
  P = spe_in M p

  is_mine : IsOwn r j p
  is_mine = is_own r rec frames j low p (ap (λ s. maker s) step_is)

  low_p : p < count_of r
  low_p = is_mine.low

  -- the recorded step
  record Came : Type 0 where
    op : AtomicOp
    may : may_atomic K ≡ true
    slot : K.channels.slot ≡ Some op
    left_is : is_mine.left ≡ line_left A.memory K op (fate A.memory K op)
    effect_is : r.effect j ≡ line_effect p op (line_left A.memory K op (fate A.memory K op)).spe (fate A.memory K op)

  came : Came
  came =
      atomic-is (length A.spes) p p A.memory K is_mine.left (r.effect j) (λ x e. is_mine.left ≡ x → r.effect j ≡ e → Came)
      (ap (λ s. own A.memory s K) (sym step_is) ∙ is_mine.owns) (ap (λ s. own_effect (length A.spes) p A.memory s K) (sym step_is) ∙ is_mine.effect)
      (λ a may slot left_is effect_is. record {
        op = a;
        may = may;
        slot = slot;
        left_is = left_is ∙ line_is A.memory K a (fate A.memory K a);
        effect_is = effect_is ∙ ap (λ (x : Left). line_effect p a x.spe (fate A.memory K a)) (line_is A.memory K a (fate A.memory K a));
      }) refl refl

  abbrev a : AtomicOp
  a = came.op

  is_one : is_atomic_step p (r.step j) (r.effect j).note ≡ true
  is_one = ap (λ s. is_atomic_step p s (r.effect j).note) step_is ∙ eq_same p

  lock_cut : IsCut r.size (λ i. is_atomic_step p (r.step i) (r.effect i).note) D j
  lock_cut =
      cut_front r.size Before (λ i. is_atomic_step p (r.step i) (r.effect i).note) D j front
      (λ i less c. chain i j p less low c is_one) (λ i more low_i c. chain j i p more low_i is_one c)

  of_P : DescribesSpe r p D P
  of_P = describes.spes p low_p

  locking : locking_of P ≡ locking_of K
  locking =
      shown_at r.size (λ i. is_atomic_step p (r.step i) (r.effect i).note) (λ x. locking_of (spe_before r p x)) (λ i h off. frames.locking i p h low_p off) D j (locking_of P) (omega (arith, low)) lock_cut of_P.locking

  slot_same : P.channels.slot ≡ K.channels.slot
  slot_same = ap (λ (l : Locking). l.slot) locking

  sees : SeesAtomic A.memory M.memory K P
  sees = record {
    sound = sound_there r frames Before orders D j M front describes shown p low_p faultless;
    slot = slot_same;
    reserved = ap (λ (l : Locking). l.reserved) locking;
    version = version;
  }

  allows : AllowsAtomic A.memory M.memory K P
  allows = atomics-allowed A.memory M.memory K P sees

  fates : fate M.memory P a ≡ fate A.memory K a
  fates = allows.fate_is a came.slot

  abbrev x : Left
  x = line_left M.memory P a (fate M.memory P a)

  made : atomic M.memory P ≡ Some x
  made = atomic-made M.memory P a (allows.may came.may) (slot_same ∙ came.slot)

  told : own_effect (length M.spes) p M.memory (Atomic p) P ≡ Some (line_effect p a x.spe (fate M.memory P a))
  told =
      ap (option_and_then (λ (y : Left). option_map (λ b. line_effect p b y.spe (fate M.memory P b)) P.channels.slot)) made
      ∙ ap (option_map (λ b. line_effect p b x.spe (fate M.memory P b))) (slot_same ∙ came.slot)

  spans : HasSameSpans (line_effect p a x.spe (fate M.memory P a)) (r.effect j)
  spans = subst (λ f. HasSameSpans (line_effect p a x.spe f) (r.effect j)) (sym fates) (line_spans p a x.spe (line_left A.memory K a (fate A.memory K a)).spe (fate A.memory K a) (r.effect j) came.effect_is)

  at_M : slice_get M.spes p ≡ Some P
  at_M = get_in M.spes p (omega (arith, low_p, describes.count))

  at_A : slice_get A.spes p ≡ Some K
  at_A = spe-at r rec faultless j p (omega (arith, low)) low_p

  wrote : written_by M (r.step j) ≡ written_by A (r.step j)
  wrote =
      ap (written_by M) step_is ∙ wrote_there M p P a at_M (slot_same ∙ came.slot) ∙ ap line_written fates
      ∙ sym (ap (written_by A) step_is ∙ wrote_there A p K a at_A came.slot)

  stores : stored_by A (r.step j) ≡ stored_by_fate (fate A.memory K a) a.line
  stores = ap (stored_by A) step_is ∙ stored_there A p K a at_A came.slot

  -- what is left of the processor
  abbrev Q : Spe
  Q = x.spe

  is : IsAnswered M.memory P Q a
  is = is_answered M.memory P a (fate M.memory P a)

  locking_next : locking_of Q ≡ locking_of (spe_before r p (suc j))
  locking_next =
      is.locking
      ∙ ap₂ (λ status reserved. with_locking status reserved) (allows.status a came.slot) (allows.reserved a came.slot)
      ∙ sym (ap (λ (y : Left). locking_of (settled y.spe)) came.left_is ∙ (is_answered A.memory K a (fate A.memory K a)).locking)
      ∙ sym (ap locking_of is_mine.after)
    where
      with_locking : Option ℕ → Option Reserved → Locking
      with_locking status reserved = record { slot = None; atomic = status; reserved = reserved }

  described : DescribesSpe r p (D ++ j ∷ []) (settled Q)
  described =
      subst (DescribesSpe r p (D ++ j ∷ [])) (sym (settled_here Q (record { mask = Q.tags.mask; request = asked r p of_P.program.place; status = None }) tags)) (record {
        program = record {
          place = of_P.program.place;
          within = of_P.program.within;
          cut = cut_skip r.size (λ i. is_exec p (r.step i)) D j of_P.program.place (ap (is_exec p) step_is) of_P.program.cut;
          program = is.program ∙ of_P.program.program;
          tags = tags;
          stalls = is.stalls ∙ of_P.program.stalls ∙ ap (λ (mv : Moves). cond (owes r p of_P.program.place) 0 (stalled_groups mv)) (sym is.moves);
        };
        read = map_same (element_at r p) D j Q.moves.read (ap (λ s. element_by p s (spe_before r p (suc j))) step_is) (ap (λ (mv : Moves). mv.read) is.moves ∙ of_P.read);
        done = map_same (λ i. done_by p (r.step i)) D j Q.moves.done (ap (done_by p) step_is) (ap (λ (mv : Moves). mv.done) is.moves ∙ of_P.done);
        retired = map_same (λ i. retired_by p (r.step i)) D j Q.moves.retired (ap (retired_by p) step_is) (ap (λ (mv : Moves). mv.retired) is.moves ∙ of_P.retired);
        elements = λ b. shows_skip r.size (λ i. is_elem p b (r.step i)) (λ x. read_of (spe_before r p x).moves.read b) D j (read_of P.moves.read b) (read_of Q.moves.read b) (ap (is_elem p b) step_is)
            (ap (λ (mv : Moves). read_of mv.read b) is.moves) (of_P.elements b);
        locking = shows_step r.size (λ i. is_atomic_step p (r.step i) (r.effect i).note) (λ x. locking_of (spe_before r p x)) D j (locking_of Q) low lock_cut locking_next;
        boxes = λ m small. subst (ShowsBox r p m (D ++ j ∷ [])) (sym (is.boxes m)) (kept m (of_P.boxes m small));
        heard = is.heard ∙ of_P.heard;
      })
    where
      tags : Q.tags ≡ settled_tags (busy Q.moves) (length Q.moves.issued) (record { mask = Q.tags.mask; request = asked r p of_P.program.place; status = None })
      tags =
          is.tags ∙ of_P.program.tags
          ∙ ap₂ (λ (t : Tags) (mv : Moves). settled_tags (busy mv) (length mv.issued) (record { mask = t.mask; request = asked r p of_P.program.place; status = None })) (sym is.tags) (sym is.moves)

      note_off : (m : ℕ) → (is_put_note p m (r.effect j).note ≡ false) × (is_take_note p m (r.effect j).note ≡ false)
      note_off m = on (fate A.memory K a) came.effect_is
        where
          on : (f : Fate) → r.effect j ≡ line_effect p a (line_left A.memory K a (fate A.memory K a)).spe f → (is_put_note p m (r.effect j).note ≡ false) × (is_take_note p m (r.effect j).note ≡ false)
          on Got h = (ap (λ (e : Effect). is_put_note p m e.note) h, ap (λ (e : Effect). is_take_note p m e.note) h)
          on Stored h = (ap (λ (e : Effect). is_put_note p m e.note) h, ap (λ (e : Effect). is_take_note p m e.note) h)
          on Lost h = (ap (λ (e : Effect). is_put_note p m e.note) h, ap (λ (e : Effect). is_take_note p m e.note) h)

      kept : (m : ℕ) → ShowsBox r p m D (box_of m P) → ShowsBox r p m (D ++ j ∷ []) (box_of m P)
      kept m box = record {
        put_place = box.put_place;
        take_place = box.take_place;
        put_within = box.put_within;
        take_within = box.take_within;
        put_cut = cut_skip r.size (λ i. is_put_note p m (r.effect i).note) D j box.put_place (note_off m).0 box.put_cut;
        take_cut = cut_skip r.size (λ i. is_take_note p m (r.effect i).note) D j box.take_place (note_off m).1 box.take_cut;
        values_are = box.values_are;
      }

  long : length x.memory.bytes ≡ length M.memory.bytes
  long =
      let first = (rec.sound j (omega (arith, low))).long in
      let after = (rec.sound (suc j) low).long in
      ap length (left_bytes M.memory A.memory P K a (fate M.memory P a) same_bytes.memory (same_bytes.stores p)) ∙ ap (λ f. length (line_left A.memory K a f).memory.bytes) fates
      ∙ sym (ap (λ (y : Left). length y.memory.bytes) came.left_is) ∙ sym (ap (λ (m : MainMemory). length m.bytes) is_mine.memory) ∙ after ∙ sym first ∙ sym (ap length same_bytes.memory)

  pub makes : MakesStep r D j M
  makes =
      made_in r rec frames j low p (ap (λ s. maker s) step_is) D M x (line_effect p a x.spe (fate M.memory P a)) low_p describes
      (ap (λ s. own M.memory s P) step_is ∙ made) (ap (λ s. own_effect (length M.spes) p M.memory s P) step_is ∙ told) spans wrote described long
      (left_versions M.memory P a (fate M.memory P a) ∙ ap (λ o. option_map_or (raised M.memory.versions) o M.memory.versions) (ap (λ f. stored_by_fate f a.line) fates ∙ sym stores))
      (left_unsent M.memory P a (fate M.memory P a))
