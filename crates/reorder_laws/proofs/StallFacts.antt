-- What settledness says of stalls, by the states; first for the recorded order itself, then for the order of its pairs.
use Rattle.std.proofs.Common.{◌≡◌, ◌≢◌, ℕ, zero, suc, ◌<◌, ◌≤◌, ◌^◌, refl, sym, ◌∙◌, ap, subst, arith, true, false, length, Some, inl, inr}
use Rattle.std.specs.Prelude.{slice_get, bit_and, IsBitSet}
use Rattle.std.proofs.Math.Nat.{div_self}
use Rattle.std.proofs.lemmas.Nat.{bit_set_by_shift}
use Rattle.std.proofs.lemmas.Bool.{false≢true}
use Rattle.std.specs.List.{range_with_len}
use Rattle.cell_base.specs.declared.steps.Step.{Step}
use Rattle.cell_base.specs.declared.steps.Step.TheVariants.{Exec, Piece, Elem, Retire, Atomic, Host}
use Rattle.mfc_command.specs.declared.command.Command.{Command}
use Rattle.mfc_command.specs.Order.{is_list}
use Rattle.cell_machine.specs.declared.effect.Note.{Note}
use Rattle.cell_machine.specs.declared.effect.Note.TheVariants.{StallRead}
use Rattle.cell_machine.specs.Spe.{Spe}
use Rattle.cell_machine.specs.Memory.{MainMemory}
use Rattle.cell_machine.specs.Moves.{read_of, is_moved, is_complete, is_stalled}
use Rattle.cell_machine.specs.Exec.{asks}
use Rattle.cell_machine.specs.EffectLaws.{maker}
use Rattle.cell_machine.specs.Order.{is_step_of}
use Rattle.cell_machine.specs.Run.{Ran, IsRun}
use Rattle.cell_machine.proofs.Same.{some_same}
use Rattle.race_order.specs.Trace.{is_of}
use Rattle.reorder_laws.specs.OrderedLaws.{IsOrdered}
use Rattle.race_check.proofs.Prefixes.{run-told}
use Rattle.reorder_laws.specs.Happens.{Happens, Passes, Executes, Copies, Reads, Faults, Retires, Answers, Hosts, HostPasses}
use Rattle.reorder_laws.specs.Recorded.{Recorded, IsRecorded, count_of, spe_before, is_elem}
use Rattle.reorder_laws.specs.OrderLaws.{Orders, OrdersElements}
use Rattle.reorder_laws.specs.OrderedLaws.{IsRecordOf}
use Rattle.reorder_laws.proofs.CommandFrames.{left_unstalled, left_parts}
use Rattle.reorder_laws.proofs.Frames.{happens-at, spe-at}
use Rattle.reorder_laws.proofs.Ordering.{number_at, reached, first_from}
use Rattle.reorder_laws.specs.Described.{Describes}
use Rattle.reorder_laws.specs.Places.{spe_at}
use Rattle.reorder_laws.specs.Recording.{Records}
use Rattle.reorder_laws.specs.Settled.{IsSettled, ReadsStalls, Acknowledges, ReadsOneStall, IsClosed, Between}
use Rattle.reorder_laws.proofs.Commands.{grown_to, step_of, StepOf, IsElem, IsPiece, IsRetire}
use Rattle.reorder_laws.proofs.OneStall.{status_of_one}
use Rattle.reorder_laws.proofs.Owing.{ReadsAt, AcksAt, Unanswered, ReadsOne, HandlesOne, read_tells, number_stalled}
use Rattle.reorder_laws.proofs.SettledFacts.{HasFacts, spe_there}
use Rattle.cell_machine.proofs.Staying.{get_more}

bit_there : (k : ℕ) → IsBitSet (2 ^ k) k
bit_there k = (bit_set_by_shift (2 ^ k) k).0 (ap (λ n. bit_and n 1) (div_self (above k)))
  where
    above : (k : ℕ) → 0 < 2 ^ k
    above zero = omega arith
    above (suc k) = let h = above k in omega (arith, h)

-- a command that is retired isn't moved
record IsKept (P : Spe) (c : ℕ) : Type 0 where
  command : Command
  at : slice_get P.moves.issued c ≡ Some command
  kept : is_moved command ≡ false

retire_only : (P Q : Spe) (p c : ℕ) (s : Step) (note : Note) (memory : MainMemory) → Happens memory s note p P Q → s ≡ Retire p c → IsKept P c
retire_only P Q p c s note memory (Passes q by ne is) st = absurd (ne (some_same q p (sym by ∙ ap maker st)))
retire_only P Q p c s note memory (Executes d st2 made told is) st = let e = sym st2 ∙ st in absurd (cc)
retire_only P Q p c s note memory (Copies c2 e k d x store st2 at has there number told is) st = let e = sym st2 ∙ st in absurd (cc)
retire_only P Q p c s note memory (Reads c2 d x st2 at has el told is) st = let e = sym st2 ∙ st in absurd (cc)
retire_only P Q p c s note memory (Faults c2 d kind st2 at has told is) st = let e = sym st2 ∙ st in absurd (cc)
retire_only P Q p c s note memory (Retires c2 d st2 at left told is) st =
    let e : Retire p c2 ≡ Retire p c = sym st2 ∙ st in
    let same : c2 ≡ c = cc in
    record { command = d; at = ap (slice_get P.moves.issued) (sym same) ∙ at; kept = (left_parts P.moves c2 d left).0 }
retire_only P Q p c s note memory (Answers a store st2 slot told is) st = let e = sym st2 ∙ st in absurd (cc)
retire_only P Q p c s note memory (Hosts a st2 of may told is) st = let e = sym st2 ∙ st in absurd (cc)
retire_only P Q p c s note memory (HostPasses a st2 of told is) st = let e = sym st2 ∙ st in absurd (cc)

module _ (m : Ran) (r : Recorded) (run : IsRun m.setup m.steps) (settled : IsSettled m) (of : Records m r) (rec : IsRecorded r) (facts : HasFacts m r) where
  spe_is : (j p : ℕ) (P : Spe) → j ≤ r.size → p < count_of r → spe_at m j p ≡ Some P → P ≡ spe_before r p j
  spe_is j p P low low_p at = some_same P (spe_before r p j) (sym at ∙ spe_there m r run settled of rec j p low low_p)

  reads_to : (k p : ℕ) → k < r.size → p < count_of r → ReadsAt r p k → ReadsStalls m p k
  reads_to k p low low_p x = record {
    register = x.register;
    reads = record { step = of.step k low ∙ ap Some x.step; spe = spe_before r p k; at = spe_there m r run settled of rec k p (omega (arith, low)) low_p; asks_is = x.asks_is };
  }

  reads_from : (k p : ℕ) → k < r.size → p < count_of r → ReadsStalls m p k → ReadsAt r p k
  reads_from k p low low_p x = record {
    step = some_same (r.step k) (Exec p) (sym (of.step k low) ∙ x.reads.step);
    register = x.register;
    asks_is = ap asks (sym (spe_is k p x.reads.spe (omega (arith, low)) low_p x.reads.at)) ∙ x.reads.asks_is;
  }

  acks_to : (k p : ℕ) → k < r.size → p < count_of r → AcksAt r p k → Acknowledges m p k
  acks_to k p low low_p x = record {
    tag = x.tag;
    writes = record { step = of.step k low ∙ ap Some x.step; spe = spe_before r p k; at = spe_there m r run settled of rec k p (omega (arith, low)) low_p; asks_is = x.asks_is };
  }

  acks_from : (k p : ℕ) → k < r.size → p < count_of r → Acknowledges m p k → AcksAt r p k
  acks_from k p low low_p x = record {
    step = some_same (r.step k) (Exec p) (sym (of.step k low) ∙ x.writes.step);
    tag = x.tag;
    asks_is = ap asks (sym (spe_is k p x.writes.spe (omega (arith, low)) low_p x.writes.at)) ∙ x.writes.asks_is;
  }

  answered : (i j p : ℕ) → j ≤ r.size → p < count_of r → Unanswered r p i j → Between i j (Acknowledges m p) → ⊥
  answered i j p high low_p none b = let l = b.below in none b.place b.above b.below (acks_from b.place p (omega (arith, l, high)) low_p b.holds)

  of_is : (p c : ℕ) (s : Step) → is_step_of p c s ≡ true → is_of p c s ≡ true
  of_is p c (Exec q) h = absurd (false≢true h)
  of_is p c (Piece q d e k) h = h
  of_is p c (Elem q d) h = h
  of_is p c (Retire q d) h = h
  of_is p c (Atomic q) h = absurd (false≢true h)
  of_is p c Host h = absurd (false≢true h)

  -- where the order has all that the run's own has, and the steps of a stalled list come before the read
  module _ (Before : ℕ → ℕ → Type 0) (weaker : (i j : ℕ) → IsOrdered m i j → Before i j)
      (own : (i j p c : ℕ) (d : Command) → i < j → j < r.size → p < count_of r → ReadsAt r p j → slice_get (spe_before r p j).moves.issued c ≡ Some d → is_list d.kind ≡ true → is_stalled (spe_before r p j).moves c d ≡ true
      → ((b : ℕ) (e : Command) → slice_get (spe_before r p j).moves.issued b ≡ Some e → is_list e.kind ≡ true → b ≢ c → is_complete (spe_before r p j).moves b ≡ true) → is_step_of p c (r.step i) ≡ true → Before i j) where
    one_at : (j p : ℕ) → j < r.size → p < count_of r → ReadsAt r p j → ReadsOne Before r j p
    one_at j p low low_p read = record {
      cmd = one.cmd;
      command = one.command;
      is = at_here one.cmd one.command one.is;
      list = one.list;
      stalled = stalled;
      others = λ c d at list ne.
          let closed = closed_at c d at list ne in
          (complete_at c closed, λ i i_low h. weaker i j (closed.ordered i (record { event = record { step = r.step i; effect = r.effect i }; at = of.event i i_low; is = of_is p c (r.step i) h })));
      own = λ i less h. own i j p one.cmd one.command less low low_p read (at_here one.cmd one.command one.is) one.list stalled (λ b e at list ne. complete_at b (closed_at b e at list ne)) h;
      named = λ k tag above k_low s a none. elim (one.named k tag above (record { step = of.step k k_low ∙ ap Some s; spe = spe_before r p k; at = spe_there m r run settled of rec k p (omega (arith, k_low)) low_p; asks_is = a })) [
        | inl b ↦ absurd (answered j k p (omega (arith, k_low)) low_p none b)
        | inr e ↦ e
      ];
      quiet = λ k c d above k_low issue list none.
          answered j k p (omega (arith, k_low)) low_p none (one.quiet k c d above (record { event = record { step = r.step k; effect = r.effect k }; at = of.event k k_low; is = issue.step; notes = issue.note }) list);
    }
      where
        one : ReadsOneStall m j p
        one = settled.stalls.one j p (reads_to j p low low_p read)

        same : one.spe ≡ spe_before r p j
        same = spe_is j p one.spe (omega (arith, low)) low_p one.at

        at_here : (c : ℕ) (d : Command) → slice_get one.spe.moves.issued c ≡ Some d → slice_get (spe_before r p j).moves.issued c ≡ Some d
        at_here c d at = ap (λ (P : Spe). slice_get P.moves.issued c) (sym same) ∙ at

        stalled : is_stalled (spe_before r p j).moves one.cmd one.command ≡ true
        stalled = ap (λ (P : Spe). is_stalled P.moves one.cmd one.command) (sym same) ∙ one.stalled

        closed_at : (c : ℕ) (d : Command) → slice_get (spe_before r p j).moves.issued c ≡ Some d → is_list d.kind ≡ true → c ≢ one.cmd → IsClosed m j p c
        closed_at c d at list ne = one.others c d (ap (λ (P : Spe). slice_get P.moves.issued c) same ∙ at) list ne

        complete_at : (c : ℕ) → IsClosed m j p c → is_complete (spe_before r p j).moves c ≡ true
        complete_at c closed = ap (λ (P : Spe). is_complete P.moves c) (sym (spe_is j p closed.spe (omega (arith, low)) low_p closed.at)) ∙ closed.complete

    pub handles : HandlesOne Before r
    handles = record {
      reads = λ i j p less low low_p a b none.
          answered i j p (omega (arith, low)) low_p none ((settled.stalls.alternates p).reads i j less (reads_to i p (omega (arith, less, low)) low_p a) (reads_to j p low low_p b));
      first = λ j p low low_p ack none.
          let x = (settled.stalls.alternates p).first j (acks_to j p low low_p ack) in
          let l = x.1 in
          none x.0 x.1 (reads_from x.0 p (omega (arith, l, low)) low_p x.2);
      acks = λ i j p less low low_p a b none.
          let x = (settled.stalls.alternates p).acknowledgements i j less (acks_to i p (omega (arith, less, low)) low_p a) (acks_to j p low low_p b) in
          let l = x.below in
          none x.place x.above x.below (reads_from x.place p (omega (arith, l, low)) low_p x.holds);
      one = one_at;
    }

  -- the recorded order
  pub handles_recorded : HandlesOne (λ i j. i < j) r
  handles_recorded = handles (λ i j. i < j) facts.orders.below (λ i j p c d less low low_p read at list stalled others h. less)

  -- the steps of the list that is stalled at a read are ordered before it, where the status shows its group
  is_record : IsRecordOf m r
  is_record = record { size = of.size; told = run-told m run; at = of.at; event = of.event }

  seen : (i j p c groups : ℕ) (d : Command) → i < j → j < r.size → p < count_of r → r.step j ≡ Exec p → (r.effect j).note ≡ StallRead groups → slice_get (spe_before r p j).moves.issued c ≡ Some d → is_list d.kind ≡ true
      → is_stalled (spe_before r p j).moves c d ≡ true → IsBitSet groups d.tag → is_step_of p c (r.step i) ≡ true → IsOrdered m i j
  seen i j p c groups d less low low_p s note at list stalled bit h = on (step_of p c (r.step i) h)
    where
      i_low : i < r.size
      i_low = omega (arith, less, low)

      elem_seen : (k : ℕ) → k < j → r.step k ≡ Elem p c → IsOrdered m k j
      elem_seen k below st =
          let l = reached m r is_record rec facts.faultless j k p c below (omega (arith, low)) st in
          let o = facts.orders.stall_seen l.place j j p c (length (read_of (spe_before r p l.place).moves.read c)) groups d l.low low (inl (l.is, refl)) (omega arith) (record { stalled = number_stalled (spe_before r p j).moves c d at ∙ stalled; last = l.count }) s note at bit in
          elim l.chain [
            | inl e ↦ subst (λ x. IsOrdered m x j) (sym e) o
            | inr more ↦ facts.orders.trans k l.place j more o
          ]

      at_i : (x : Command) → slice_get (spe_before r p i).moves.issued c ≡ Some x → x ≡ d
      at_i x there =
          let g = grown_to r facts.frames p low_p i j (omega (arith, less)) (omega (arith, low)) in
          some_same x d (sym (ap (λ xs. slice_get xs c) g.1 ∙ get_more (spe_before r p i).moves.issued g.0 c x there) ∙ at)

      on : StepOf p c (r.step i) → IsOrdered m i j
      on (IsElem st) = elem_seen i less st
      on (IsRetire st) =
          let x = retire_only (spe_before r p i) (spe_before r p (suc i)) p c (r.step i) (r.effect i).note (r.state i).memory (happens-at r rec facts.faultless i p i_low low_p) st in
          let few = ((rec.sound j (omega (arith, low))).whole p (spe_before r p j) (spe-at r rec facts.faultless j p (omega (arith, low)) low_p)).few in
          absurd (false≢true (sym (left_unstalled (spe_before r p j).moves c d (few c d at) (ap is_moved (sym (at_i x.command x.at)) ∙ x.kept)) ∙ stalled))
      on (IsPiece e k st) =
          let x = facts.frames.there i p c i_low low_p h in
          let same = at_i x.0 x.1 in
          let number = number_at m r is_record rec facts.faultless i p c e k x.0 i_low st x.1 (ap (λ (y : Command). is_list y.kind) same ∙ list) in
          elim (first_from m r is_record rec facts.faultless j i p c less (omega (arith, low)) low_p (ap (is_elem p c) st)) [
            | inl count ↦ facts.orders.stall_seen i j j p c e groups d less low (inr (k, st)) (omega arith) (record { stalled = number_stalled (spe_before r p j).moves c d at ∙ stalled; last = count ∙ number }) s note at bit
            | inr f ↦
                let l = f.low in
                facts.orders.trans i f.place j (facts.orders.next_element i f.place p c e f.above (omega (arith, l, low)) (inr (k, st)) f.is (f.count ∙ number)) (elem_seen f.place f.low f.is)
          ]

  -- the order of its pairs, where each recorded state is described
  pub handles_ordered : ((j : ℕ) → j ≤ r.size → Describes r (range_with_len 0 j) (r.state j)) → HandlesOne (IsOrdered m) r
  handles_ordered shown = handles (IsOrdered m) (λ i j o. o) (λ i j p c d less low low_p read at list stalled others h.
      seen i j p c (spe_before r p j).channels.stalls d less low low_p read.step (read_tells r rec facts.frames facts.faultless j p low low_p read) at list stalled
      (subst (λ n. IsBitSet n d.tag) (sym (status_of_one r rec facts.frames facts.faultless (λ i j. i < j) handles_recorded j p low low_p (shown j (omega (arith, low))) read c d at stalled others)) (bit_there d.tag)) h)

-- the recorded order itself has all rules
pub orders_recorded : (r : Recorded) → Orders (λ i j. i < j) r
orders_recorded r = record {
  trans = λ i k j a b. omega (arith, a, b);
  below = λ i j a. a;
  program = λ i j p h low a b. h;
  script = λ i j h low a b. h;
  issued = λ i j p c d h low a n b. h;
  atomic_issued = λ i j p h low a n b none. h;
  next_atomic = λ i j p h low a b n. h;
  atomic_seen = λ i j p h low a b n. h;
  passed = λ i j q k h low a b same. h;
  place_free = λ i j q k h low a b same. h;
  finished = λ i j p h low a n b o. h;
  queue = λ i j p c d h low a b goes. h;
  element_piece = λ i j p c n k h low a number b. h;
  next_element = λ i j p c n h low a b number. h;
  stall_seen = λ i x j p c n groups d h low a early stall b note at set. h;
  resumed = λ i j p c d h low a stalled at note b. h;
  resumed_earlier = λ i j p c b d h low a stalled at note x goes. h;
  tag_seen = λ i j p c groups count d h low a b note at set less. h;
}

pub lists_recorded : (r : Recorded) → OrdersElements (λ i j. i < j) r
lists_recorded r = record {
  elements = λ i j p c h low a b. h;
  piece_element = λ i j p c e k h low a b. h;
  element_pieces = λ i j p c e k h low a b. h;
}
