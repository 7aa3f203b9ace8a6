-- Stalls that were read and not acknowledged, in a run whose stalls are handled one by one.
use Rattle.std.proofs.Common.{◌≡◌, ◌≢◌, ℕ, zero, suc, ◌+◌, ◌-◌, ◌<◌, ◌≤◌, refl, sym, ◌∙◌, ap, subst, arith, true, false, [], ◌∷◌, ◌++◌, Option, Some, None, cond, inl, inr}
use Rattle.std.specs.Prelude.{slice_get, ◌⊎◌, ◌==◌, nat_lt}
use Rattle.std.specs.Option.{option_map_or}
use Rattle.std.proofs.lemmas.Bool.{cases_Bool, cases_lt, cases_eq, cases_order, eq-eqb, lt-ltb, false≢true}
use Rattle.cell_base.specs.declared.steps.ChannelOp.{ChannelOp}
use Rattle.cell_base.specs.declared.steps.ChannelOp.TheVariants.{Read, Count, Write}
use Rattle.cell_base.specs.declared.steps.Step.TheVariants.{Exec}
use Rattle.mfc_command.specs.declared.command.Command.{Command}
use Rattle.mfc_command.specs.Order.{is_list}
use Rattle.cell_machine.specs.declared.effect.Note.{Note}
use Rattle.cell_machine.specs.declared.effect.Note.TheVariants.{Nothing, Issue, AtomicIssue, TagRead, StallRead, Ack, AtomicRead, Put, Take, Ended, Awaited, Element as Reading, Signal}
use Rattle.cell_machine.specs.Spe.{Spe, Moves}
use Rattle.cell_machine.specs.Memory.{lines_of}
use Rattle.cell_machine.specs.Moves.{is_complete, is_stalled}
use Rattle.cell_machine.specs.Exec.{asks}
use Rattle.cell_machine.specs.Order.{is_step_of}
use Rattle.cell_machine.proofs.Same.{eq_is, get-last, lt_is}
use Rattle.cell_machine.proofs.Staying.{get_more}
use Rattle.reorder_laws.specs.Deeds.{Did, Ends, Goes, Plain, SetParams, SetMask, AskTags, TakeTags, TakeStalls, TakeAtomic, TakeValue, Queue, FillSlot, Resume, PutValue, PutInterrupt, TakeSignal, LeaveEvents, note_of}
use Rattle.reorder_laws.specs.SameDeeds.{ReadsStalls, op_kind, did_kind, Found}
use Rattle.reorder_laws.proofs.SameDeeds.{exec-finds, exec-kinds}
use Rattle.reorder_laws.specs.Cuts.{has}
use Rattle.reorder_laws.specs.Recorded.{Recorded, IsRecorded, count_of, spe_before, is_exec, owes, owes_after, is_stalled_number}
use Rattle.reorder_laws.specs.OrderLaws.{Orders}
use Rattle.reorder_laws.specs.Frames.{IsFaultless, Acknowledges, Issues, HasFrames}
use Rattle.reorder_laws.proofs.Frames.{happens-at}
use Rattle.reorder_laws.proofs.CommandFrames.{exec-only, IsDone}
use Rattle.reorder_laws.specs.Facts.{OwedListsRest}
use Rattle.reorder_laws.proofs.Commands.{grown_to}
use Rattle.reorder_laws.proofs.SettledFacts.{exec_is}

-- ---- reads of the stall status, and acknowledgements

pub record ReadsAt (r : Recorded) (p k : ℕ) : Type 0 where
  pub step : r.step k ≡ Exec p
  pub register : ℕ
  pub asks_is : asks (spe_before r p k) ≡ Some (Read register 25)

pub record AcksAt (r : Recorded) (p k : ℕ) : Type 0 where
  pub step : r.step k ≡ Exec p
  pub tag : ℕ
  pub asks_is : asks (spe_before r p k) ≡ Some (Write 26 tag)

-- no acknowledgement stands between two places
abbrev pub Unanswered : Recorded → ℕ → ℕ → ℕ → Type 0
Unanswered r p i j = (k : ℕ) → i < k → k < j → AcksAt r p k → ⊥

-- which of the two came last before place j
pub data Since (r : Recorded) (p j : ℕ) : Type 0 where
  Never : owes r p j ≡ false → ((k : ℕ) → k < j → ReadsAt r p k → ⊥) → Since r p j
  Read_at : (i : ℕ) → i < j → owes r p j ≡ true → ReadsAt r p i → Unanswered r p i j → Since r p j
  Acked_at : (k : ℕ) → k < j → owes r p j ≡ false → AcksAt r p k → ((i : ℕ) → k < i → i < j → ReadsAt r p i → ⊥) → Since r p j

later : (r : Recorded) (p j : ℕ) → Since r p j → owes r p (suc j) ≡ owes r p j → (ReadsAt r p j → ⊥) → (AcksAt r p j → ⊥) → Since r p (suc j)
later r p j (Never o none) e no_read no_ack = Never (e ∙ o) (λ k h x. elim (cases_lt k j) [
  | inl less ↦ none k less x
  | inr more ↦ no_read (subst (ReadsAt r p) (let q : k ≡ j = omega (arith, h, more) in q) x)
])
later r p j (Read_at i less o x none) e no_read no_ack = Read_at i (omega (arith, less)) (e ∙ o) x (λ k low h y. elim (cases_lt k j) [
  | inl below ↦ none k low below y
  | inr more ↦ no_ack (subst (AcksAt r p) (let q : k ≡ j = omega (arith, h, more) in q) y)
])
later r p j (Acked_at k less o x none) e no_read no_ack = Acked_at k (omega (arith, less)) (e ∙ o) x (λ i low h y. elim (cases_lt i j) [
  | inl below ↦ none i low below y
  | inr more ↦ no_read (subst (ReadsAt r p) (let q : i ≡ j = omega (arith, h, more) in q) y)
])

owes_exec : (r : Recorded) (p j : ℕ) (o : Option ChannelOp) → r.step j ≡ Exec p → asks (spe_before r p j) ≡ o → owes r p (suc j) ≡ owes_after o (owes r p j)
unfolding owes
owes_exec r p j o s a =
    ap (λ s. cond (is_exec p s) (owes_after (asks (spe_before r p j)) (owes r p j)) (owes r p j)) s
    ∙ ap (λ b. cond b (owes_after (asks (spe_before r p j)) (owes r p j)) (owes r p j)) (eq-eqb p p refl)
    ∙ ap (λ o. owes_after o (owes r p j)) a

owes_other : (r : Recorded) (p j : ℕ) → is_exec p (r.step j) ≡ false → owes r p (suc j) ≡ owes r p j
unfolding owes
owes_other r p j h = rw h refl

pub since : (r : Recorded) (p j : ℕ) → Since r p j
unfolding owes
since r p zero = Never refl (λ k h x. omega (arith, h))
since r p (suc j) = on (cases_Bool (is_exec p (r.step j))) (since r p j)
  where
    is_p : (k : ℕ) → r.step k ≡ Exec p → is_exec p (r.step k) ≡ true
    is_p k s = ap (is_exec p) s ∙ eq-eqb p p refl

    no_read : (o : Option ChannelOp) → asks (spe_before r p j) ≡ o → ((rt : ℕ) → o ≡ Some (Read rt 25) → ⊥) → ReadsAt r p j → ⊥
    no_read o a none x = none x.register (sym a ∙ x.asks_is)

    no_ack : (o : Option ChannelOp) → asks (spe_before r p j) ≡ o → ((tag : ℕ) → o ≡ Some (Write 26 tag) → ⊥) → AcksAt r p j → ⊥
    no_ack o a none x = none x.tag (sym a ∙ x.asks_is)

    by : (o : Option ChannelOp) → r.step j ≡ Exec p → asks (spe_before r p j) ≡ o → Since r p j → Since r p (suc j)
    by None s a was = later r p j was (owes_exec r p j None s a) (no_read None a (λ rt e. absurd (cc))) (no_ack None a (λ t e. absurd (cc)))
    by (Some (Count rt ch)) s a was = later r p j was (owes_exec r p j (Some (Count rt ch)) s a) (no_read (Some (Count rt ch)) a (λ rt e. absurd (cc))) (no_ack (Some (Count rt ch)) a (λ t e. absurd (cc)))
    by (Some (Read rt ch)) s a was = go (cases_Bool (ch == 25))
      where
        go : ((ch == 25) ≡ true) ⊎ ((ch == 25) ≡ false) → Since r p (suc j)
        go (inl t) =
            let is = eq_is ch 25 t in
            Read_at j (omega arith) (owes_exec r p j (Some (Read rt ch)) s a ∙ ap (λ ch. owes_after (Some (Read rt ch)) (owes r p j)) is) (record { step = s; register = rt; asks_is = a ∙ ap (λ ch. Some (Read rt ch)) is })
            (λ k low h y. omega (arith, low, h))
        go (inr t) =
            later r p j was (owes_exec r p j (Some (Read rt ch)) s a ∙ rw t refl) (no_read (Some (Read rt ch)) a (λ rt2 e. let c : ch ≡ 25 = cc in false≢true (sym t ∙ eq-eqb ch 25 c))) (no_ack (Some (Read rt ch)) a (λ t e. absurd (cc)))
    by (Some (Write ch value)) s a was = go (cases_Bool (ch == 26))
      where
        go : ((ch == 26) ≡ true) ⊎ ((ch == 26) ≡ false) → Since r p (suc j)
        go (inl t) =
            let is = eq_is ch 26 t in
            Acked_at j (omega arith) (owes_exec r p j (Some (Write ch value)) s a ∙ ap (λ ch. owes_after (Some (Write ch value)) (owes r p j)) is) (record { step = s; tag = value; asks_is = a ∙ ap (λ ch. Some (Write ch value)) is })
            (λ i low h y. omega (arith, low, h))
        go (inr t) =
            later r p j was (owes_exec r p j (Some (Write ch value)) s a ∙ rw t refl) (no_read (Some (Write ch value)) a (λ rt2 e. absurd (cc))) (no_ack (Some (Write ch value)) a (λ t2 e. let c : ch ≡ 26 = cc in false≢true (sym t ∙ eq-eqb ch 26 c)))

    on : (is_exec p (r.step j) ≡ true) ⊎ (is_exec p (r.step j) ≡ false) → Since r p j → Since r p (suc j)
    on (inl t) was = by (asks (spe_before r p j)) (exec_is p (r.step j) t) refl was
    on (inr t) was = later r p j was (owes_other r p j t) (λ x. false≢true (sym t ∙ is_p j x.step)) (λ x. false≢true (sym t ∙ is_p j x.step))

-- ---- what settledness says of them

-- of a read at place j: the list that is stalled there, and all else
pub record ReadsOne (Before : ℕ → ℕ → Type 0) (r : Recorded) (j p : ℕ) : Type 0 where
  pub cmd : ℕ
  pub command : Command
  pub is : slice_get (spe_before r p j).moves.issued cmd ≡ Some command
  pub list : is_list command.kind ≡ true
  pub stalled : is_stalled (spe_before r p j).moves cmd command ≡ true
  pub others : (c : ℕ) (d : Command) → slice_get (spe_before r p j).moves.issued c ≡ Some d → is_list d.kind ≡ true → c ≢ cmd
      → (is_complete (spe_before r p j).moves c ≡ true) × ((i : ℕ) → i < r.size → is_step_of p c (r.step i) ≡ true → Before i j)
  pub own : (i : ℕ) → i < j → is_step_of p cmd (r.step i) ≡ true → Before i j
  pub named : (k tag : ℕ) → j < k → k < r.size → r.step k ≡ Exec p → asks (spe_before r p k) ≡ Some (Write 26 tag) → Unanswered r p j k → tag ≡ command.tag
  pub quiet : (k c : ℕ) (d : Command) → j < k → k < r.size → Issues r k p c d → is_list d.kind ≡ true → Unanswered r p j k → ⊥

pub record HandlesOne (Before : ℕ → ℕ → Type 0) (r : Recorded) : Type 0 where
  pub reads : (i j p : ℕ) → i < j → j < r.size → p < count_of r → ReadsAt r p i → ReadsAt r p j → Unanswered r p i j → ⊥
  pub first : (j p : ℕ) → j < r.size → p < count_of r → AcksAt r p j → ((i : ℕ) → i < j → ReadsAt r p i → ⊥) → ⊥
  pub acks : (i j p : ℕ) → i < j → j < r.size → p < count_of r → AcksAt r p i → AcksAt r p j → ((k : ℕ) → i < k → k < j → ReadsAt r p k → ⊥) → ⊥
  pub one : (j p : ℕ) → j < r.size → p < count_of r → ReadsAt r p j → ReadsOne Before r j p

-- ---- by the deed of an instruction

acks_of : (P : Spe) (p t : ℕ) (d : Did) → note_of p d ≡ Ack t → Found P d → asks P ≡ Some (Write 26 t)
acks_of P p t (Ends status x) e f = absurd (cc)
acks_of P p t (Goes x Plain) e f = absurd (cc)
acks_of P p t (Goes x (SetParams params)) e f = absurd (cc)
acks_of P p t (Goes x (SetMask mask)) e f = absurd (cc)
acks_of P p t (Goes x (TakeSignal mask)) e f = absurd (cc)
acks_of P p t (Goes x (LeaveEvents mask)) e f = absurd (cc)
acks_of P p t (Goes x (AskTags how)) e f = absurd (cc)
acks_of P p t (Goes x (TakeTags s)) e f = absurd (cc)
acks_of P p t (Goes x (TakeStalls bits)) e f = absurd (cc)
acks_of P p t (Goes x TakeAtomic) e f = absurd (cc)
acks_of P p t (Goes x TakeValue) e f = absurd (cc)
acks_of P p t (Goes x (Queue number d)) e f = absurd (cc)
acks_of P p t (Goes x (FillSlot a)) e f = absurd (cc)
acks_of P p t (Goes x (Resume tag stalls)) e f = let q : tag ≡ t = cc in f.1 ∙ ap (λ t. Some (Write 26 t)) q
acks_of P p t (Goes x (PutValue value)) e f = absurd (cc)
acks_of P p t (Goes x (PutInterrupt value)) e f = absurd (cc)

reads_of : (P : Spe) (p : ℕ) (d : Did) → did_kind d ≡ ReadsStalls → Found P d → note_of p d ≡ StallRead P.channels.stalls
reads_of P p (Ends status x) e f = absurd (cc)
reads_of P p (Goes x Plain) e f = absurd (cc)
reads_of P p (Goes x (SetParams params)) e f = absurd (cc)
reads_of P p (Goes x (SetMask mask)) e f = absurd (cc)
reads_of P p (Goes x (TakeSignal mask)) e f = absurd (cc)
reads_of P p (Goes x (LeaveEvents mask)) e f = absurd (cc)
reads_of P p (Goes x (AskTags how)) e f = absurd (cc)
reads_of P p (Goes x (TakeTags s)) e f = absurd (cc)
reads_of P p (Goes x (TakeStalls bits)) e f = ap StallRead f.0
reads_of P p (Goes x TakeAtomic) e f = absurd (cc)
reads_of P p (Goes x TakeValue) e f = absurd (cc)
reads_of P p (Goes x (Queue number d)) e f = absurd (cc)
reads_of P p (Goes x (FillSlot a)) e f = absurd (cc)
reads_of P p (Goes x (Resume tag stalls)) e f = absurd (cc)
reads_of P p (Goes x (PutValue value)) e f = absurd (cc)
reads_of P p (Goes x (PutInterrupt value)) e f = absurd (cc)

ack_note : (n : Note) → ((t : ℕ) × (n ≡ Ack t)) ⊎ ((t : ℕ) → n ≡ Ack t → ⊥)
ack_note Nothing = inr (λ t e. absurd (cc))
ack_note (Issue c d) = inr (λ t e. absurd (cc))
ack_note AtomicIssue = inr (λ t e. absurd (cc))
ack_note (TagRead g i) = inr (λ t e. absurd (cc))
ack_note (StallRead g) = inr (λ t e. absurd (cc))
ack_note (Ack t) = inl (t, refl)
ack_note AtomicRead = inr (λ t e. absurd (cc))
ack_note (Put x y) = inr (λ t e. absurd (cc))
ack_note (Take x y) = inr (λ t e. absurd (cc))
ack_note Ended = inr (λ t e. absurd (cc))
ack_note (Awaited x) = inr (λ t e. absurd (cc))
ack_note (Signal x y) = inr (λ t e. absurd (cc))
ack_note (Reading n k f) = inr (λ t e. absurd (cc))

pub stalled_at : (m : Moves) (c : ℕ) → is_stalled_number m c ≡ true → (d : Command) × (slice_get m.issued c ≡ Some d) × (is_stalled m c d ≡ true)
stalled_at m c h = on (slice_get m.issued c) refl h
  where
    on : (o : Option Command) → slice_get m.issued c ≡ o → option_map_or (is_stalled m c) o false ≡ true → (d : Command) × (slice_get m.issued c ≡ Some d) × (is_stalled m c d ≡ true)
    on None at g = absurd (false≢true g)
    on (Some d) at g = (d, at, g)

pub number_stalled : (m : Moves) (c : ℕ) (d : Command) → slice_get m.issued c ≡ Some d → is_stalled_number m c ≡ is_stalled m c d
number_stalled m c d at = ap (λ o. option_map_or (is_stalled m c) o false) at

module _ (r : Recorded) (rec : IsRecorded r) (frames : HasFrames r) (faultless : IsFaultless r) where
  did_at : (k p : ℕ) → k < r.size → p < count_of r → r.step k ≡ Exec p → IsDone (r.state k).memory (r.effect k).note p (spe_before r p k) (spe_before r p (suc k))
  did_at k p low low_p s = exec-only (r.state k).memory (r.step k) (r.effect k).note p (spe_before r p k) (spe_before r p (suc k)) (happens-at r rec faultless k p low low_p) s

  -- what an acknowledgement and a read tell
  pub acks_at : (k p t : ℕ) → k < r.size → p < count_of r → r.step k ≡ Exec p → (r.effect k).note ≡ Ack t → AcksAt r p k
  acks_at k p t low low_p s note =
      let x = did_at k p low low_p s in
      record { step = s; tag = t; asks_is = acks_of (spe_before r p k) p t x.deed (sym x.told ∙ note) (exec-finds (lines_of (r.state k).memory) (spe_before r p k) x.deed x.made) }

  pub read_tells : (k p : ℕ) → k < r.size → p < count_of r → ReadsAt r p k → (r.effect k).note ≡ StallRead (spe_before r p k).channels.stalls
  read_tells k p low low_p y =
      let x = did_at k p low low_p y.step in
      x.told ∙ reads_of (spe_before r p k) p x.deed (sym (exec-kinds (lines_of (r.state k).memory) (spe_before r p k) x.deed x.made) ∙ ap op_kind y.asks_is) (exec-finds (lines_of (r.state k).memory) (spe_before r p k) x.deed x.made)

  module _ (p : ℕ) (low_p : p < count_of r) where
    acknowledges_or : (k c : ℕ) → k < r.size → is_stalled_number (spe_before r p k).moves c ≡ true → Acknowledges r k p c ⊎ (Acknowledges r k p c → ⊥)
    acknowledges_or k c low h = on (cases_Bool (is_exec p (r.step k))) (ack_note (r.effect k).note)
      where
        d : (d : Command) × (slice_get (spe_before r p k).moves.issued c ≡ Some d) × (is_stalled (spe_before r p k).moves c d ≡ true)
        d = stalled_at (spe_before r p k).moves c h

        same_command : (a : Acknowledges r k p c) → d.0 ≡ a.command
        same_command a = let e = sym d.1 ∙ a.is in cc

        by : r.step k ≡ Exec p → (t : ℕ) → (r.effect k).note ≡ Ack t → (t ≡ d.0.tag) ⊎ (t ≢ d.0.tag) → Acknowledges r k p c ⊎ (Acknowledges r k p c → ⊥)
        by s t n (inl e) = inl (record { command = d.0; is = d.1; step = s; tag = n ∙ ap Ack e; stalled = h })
        by s t n (inr ne) = inr (λ a. ne (tags_same t a.command.tag (sym n ∙ a.tag) ∙ ap (λ (c : Command). c.tag) (sym (same_command a))))
          where
            tags_same : (a b : ℕ) → Ack a ≡ Ack b → a ≡ b
            tags_same a b e = cc

        on : (is_exec p (r.step k) ≡ true) ⊎ (is_exec p (r.step k) ≡ false) → ((t : ℕ) × ((r.effect k).note ≡ Ack t)) ⊎ ((t : ℕ) → (r.effect k).note ≡ Ack t → ⊥) → Acknowledges r k p c ⊎ (Acknowledges r k p c → ⊥)
        on (inr f) n = inr (λ a. false≢true (sym f ∙ ap (is_exec p) a.step ∙ eq-eqb p p refl))
        on (inl t) (inr none) = inr (λ a. none a.command.tag a.tag)
        on (inl t) (inl n) = by (exec_is p (r.step k) t) n.0 n.1 (cases_eq n.0 d.0.tag)

    -- a list that is stalled at place i stays so, or its stall is acknowledged
    resumed_between : (c i n : ℕ) → i + n ≤ r.size → is_stalled_number (spe_before r p i).moves c ≡ true
        → (is_stalled_number (spe_before r p (i + n)).moves c ≡ true) ⊎ ((k : ℕ) × (i ≤ k) × (k < i + n) × Acknowledges r k p c)
    resumed_between c i zero h stalled = let e : i + 0 ≡ i = omega arith in inl (ap (λ y. is_stalled_number (spe_before r p y).moves c) e ∙ stalled)
    resumed_between c i (suc n) h stalled = on (resumed_between c i n (omega (arith, h)) stalled)
      where
        by : is_stalled_number (spe_before r p (i + n)).moves c ≡ true → Acknowledges r (i + n) p c ⊎ (Acknowledges r (i + n) p c → ⊥)
            → (is_stalled_number (spe_before r p (i + suc n)).moves c ≡ true) ⊎ ((k : ℕ) × (i ≤ k) × (k < i + suc n) × Acknowledges r k p c)
        by s (inl a) = inr (i + n, omega arith, omega arith, a)
        by s (inr none) = let e : i + suc n ≡ suc (i + n) = omega arith in inl (ap (λ y. is_stalled_number (spe_before r p y).moves c) e ∙ frames.stalls_on (i + n) p c (omega (arith, h)) low_p s none)

        on : (is_stalled_number (spe_before r p (i + n)).moves c ≡ true) ⊎ ((k : ℕ) × (i ≤ k) × (k < i + n) × Acknowledges r k p c)
            → (is_stalled_number (spe_before r p (i + suc n)).moves c ≡ true) ⊎ ((k : ℕ) × (i ≤ k) × (k < i + suc n) × Acknowledges r k p c)
        on (inr a) = let l = a.2 in inr (a.0, a.1, omega (arith, l), a.3)
        on (inl s) = by s (acknowledges_or (i + n) c (omega (arith, h)) s)

    -- it makes its next step behind an acknowledgement
    pub step_behind : (c i y : ℕ) → i ≤ y → y < r.size → is_stalled_number (spe_before r p i).moves c ≡ true → is_step_of p c (r.step y) ≡ true → (k : ℕ) × (i ≤ k) × (k < y) × Acknowledges r k p c
    step_behind c i y h low stalled s =
        let n : (n : ℕ) × (y ≡ i + n) = (y - i, omega (arith, h)) in
        elim (resumed_between c i n.0 (omega (arith, n.1, low)) stalled) [
          | inl still ↦ absurd (false≢true (sym (frames.rests y p c low low_p (ap (λ y. is_stalled_number (spe_before r p y).moves c) n.1 ∙ still)) ∙ s))
          | inr a ↦ let l = a.2 in (a.0, a.1, omega (arith, l, n.1), a.3)
        ]

    -- and stays stalled while nothing is acknowledged
    pub still_stalled : (c i y : ℕ) → i ≤ y → y ≤ r.size → is_stalled_number (spe_before r p i).moves c ≡ true → ((k : ℕ) → i ≤ k → k < y → AcksAt r p k → ⊥) → is_stalled_number (spe_before r p y).moves c ≡ true
    still_stalled c i y h low stalled none =
        let n : (n : ℕ) × (y ≡ i + n) = (y - i, omega (arith, h)) in
        elim (resumed_between c i n.0 (omega (arith, n.1, low)) stalled) [
          | inl still ↦ ap (λ y. is_stalled_number (spe_before r p y).moves c) n.1 ∙ still
          | inr a ↦ let l = a.2 in absurd (none a.0 a.1 (omega (arith, l, n.1)) (acks_at a.0 p a.3.command.tag (omega (arith, l, n.1, low)) low_p a.3.step a.3.tag))
        ]

    -- a command keeps its number
    pub issued_since : (i y c : ℕ) (d : Command) → i < r.size → i < y → y ≤ r.size → Issues r i p c d → slice_get (spe_before r p y).moves.issued c ≡ Some d
    issued_since i y c d low h high issue =
        let g = grown_to r frames p low_p (suc i) y h high in
        ap (λ xs. slice_get xs c) g.1
        ∙ get_more (spe_before r p (suc i)).moves.issued g.0 c d
        (ap (λ xs. slice_get xs c) (frames.issues i p c d low low_p issue) ∙ ap (slice_get ((spe_before r p i).moves.issued ++ d ∷ [])) (sym (frames.number i p c d low low_p issue)) ∙ get-last (spe_before r p i).moves.issued d)

    module _ (Before : ℕ → ℕ → Type 0) (orders : Orders Before r) (handles : HandlesOne Before r) where
      -- where a stall was read at i and not acknowledged since, each list was issued before i
      pub issued_early : (i y c : ℕ) (d : Command) → i < r.size → y ≤ r.size → ReadsAt r p i → Unanswered r p i y → slice_get (spe_before r p y).moves.issued c ≡ Some d → is_list d.kind ≡ true
          → slice_get (spe_before r p i).moves.issued c ≡ Some d
      issued_early i y c d low high read none at list =
          let k = frames.issued_at y p c d high low_p at in
          let below = k.1 in
          elim (cases_order k.0 i) [
            | inl e ↦ absurd (notes_differ (sym (read_tells i p low low_p read) ∙ ap (λ i. (r.effect i).note) (sym e) ∙ k.2.note))
            | inr (inl less) ↦ issued_since k.0 i c d (omega (arith, less, low)) less (omega (arith, low)) k.2
            | inr (inr more) ↦ absurd ((handles.one i p low low_p read).quiet k.0 c d more (omega (arith, below, high)) k.2 list (λ y a b. none y a (omega (arith, b, below))))
          ]
        where
          notes_differ : StallRead (spe_before r p i).channels.stalls ≡ Issue c d → ⊥
          notes_differ e = cc

    module _ (Before : ℕ → ℕ → Type 0) (orders : Orders Before r) where
      -- the steps of a list that is stalled at an instruction come behind it
      pub behind : (c i y : ℕ) → i ≤ y → y < r.size → r.step i ≡ Exec p → is_stalled_number (spe_before r p i).moves c ≡ true → is_step_of p c (r.step y) ≡ true → Before i y
      behind c i y h low s stalled is_of =
          let k = step_behind c i y h low stalled is_of in
          let l = k.2 in
          let back = orders.resumed k.0 y p c k.3.command k.2 low k.3.step k.3.stalled k.3.is k.3.tag is_of in
          elim (cases_lt i k.0) [
            | inl less ↦ orders.trans i k.0 y (orders.program i k.0 p less (omega (arith, l, low)) s k.3.step) back
            | inr more ↦ let m = k.1 in subst (λ k. Before k y) (let e : k.0 ≡ i = omega (arith, m, more) in e) back
          ]

-- ---- the first law: while a stall was read and not acknowledged, no step of a list comes

pub owed_lists_rest : (r : Recorded) → IsRecorded r → HasFrames r → IsFaultless r → (Before : ℕ → ℕ → Type 0) → Orders Before r → HandlesOne Before r → OwedListsRest Before r
owed_lists_rest r rec frames faultless Before orders handles D j x p c d front low_p high cut o is_of at = on (cases_Bool (is_list d.kind)) (since r p x)
  where
    is_p : (k : ℕ) → r.step k ≡ Exec p → is_exec p (r.step k) ≡ true
    is_p k s = ap (is_exec p) s ∙ eq-eqb p p refl

    below : (k : ℕ) → k < r.size → r.step k ≡ Exec p → has D k ≡ true → k < x
    below k low s h = lt_of k x (sym (cut k low (is_p k s)) ∙ h)
      where
        lt_of : (a b : ℕ) → nat_lt a b ≡ true → a < b
        lt_of a b h = lt_is a b h

    there : (k : ℕ) → k < r.size → r.step k ≡ Exec p → k < x → has D k ≡ true
    there k low s h = cut k low (is_p k s) ∙ lt-ltb k x h

    -- against the list that is stalled at the read, and against the others
    none : (i : ℕ) → i < x → ReadsAt r p i → Unanswered r p i x → is_list d.kind ≡ true → ⊥
    none i less read free list = by (cases_eq c one.cmd)
      where
        low : i < r.size
        low = omega (arith, less, high)

        one : ReadsOne Before r i p
        one = handles.one i p low low_p read

        in_D : has D i ≡ true
        in_D = there i low read.step less

        here : j < r.size
        here = front.low

        k : (k : ℕ) × (k < j) × Issues r k p c d
        k = frames.issued_at j p c d (omega (arith, here)) low_p at

        k_low : k.0 < r.size
        k_low = let l = k.1 in omega (arith, l, here)

        k_in_D : has D k.0 ≡ true
        k_in_D = front.past k.0 k_low (orders.issued k.0 j p c d k.1 here k.2.step k.2.note is_of)

        at_x : slice_get (spe_before r p x).moves.issued c ≡ Some d
        at_x = issued_since r rec frames faultless p low_p k.0 x c d k_low (below k.0 k_low k.2.step k_in_D) high k.2

        at_i : slice_get (spe_before r p i).moves.issued c ≡ Some d
        at_i = issued_early r rec frames faultless p low_p Before orders handles i x c d low high read free at_x list

        stalled : is_stalled_number (spe_before r p i).moves one.cmd ≡ true
        stalled = number_stalled (spe_before r p i).moves one.cmd one.command one.is ∙ one.stalled

        by : (c ≡ one.cmd) ⊎ (c ≢ one.cmd) → ⊥
        by (inr ne) = front.future i low in_D ((one.others c d at_i list ne).1 j here is_of)
        by (inl e) = go (cases_lt j i)
          where
            is_own : is_step_of p one.cmd (r.step j) ≡ true
            is_own = ap (λ c. is_step_of p c (r.step j)) (sym e) ∙ is_of

            notes_differ : (t : ℕ) → StallRead (spe_before r p i).channels.stalls ≡ Ack t → ⊥
            notes_differ t e = cc

            go : (j < i) ⊎ (i ≤ j) → ⊥
            go (inl less) = front.future i low in_D (one.own j less is_own)
            go (inr more) =
                let a = step_behind r rec frames faultless p low_p one.cmd i j more here stalled is_own in
                let l = a.2 in
                let m = a.1 in
                let a_low : a.0 < r.size = omega (arith, l, here) in
                let a_in_D = front.past a.0 a_low (orders.resumed a.0 j p one.cmd a.3.command a.2 here a.3.step a.3.stalled a.3.is a.3.tag is_own) in
                elim (cases_lt i a.0) [
                  | inl above ↦ free a.0 above (below a.0 a_low a.3.step a_in_D) (acks_at r rec frames faultless a.0 p a.3.command.tag a_low low_p a.3.step a.3.tag)
                  | inr same ↦ let q : a.0 ≡ i = omega (arith, m, same) in notes_differ a.3.command.tag (sym (read_tells r rec frames faultless i p low low_p read) ∙ ap (λ i. (r.effect i).note) (sym q) ∙ a.3.tag)
                ]

    on : (is_list d.kind ≡ true) ⊎ (is_list d.kind ≡ false) → Since r p x → is_list d.kind ≡ false
    on (inr f) s = f
    on (inl t) (Never free x2) = absurd (false≢true (sym free ∙ o))
    on (inl t) (Acked_at k less out a free) = absurd (false≢true (sym out ∙ o))
    on (inl t) (Read_at i less due read free) = absurd (none i less read free t)
