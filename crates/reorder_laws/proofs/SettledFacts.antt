-- What a settled run shows at its places.
use Rattle.std.proofs.Common.{◌≡◌, ℕ, zero, suc, ◌<◌, ◌≤◌, refl, sym, ◌∙◌, ap, subst, arith, Bool, true, false, length, Option, Some, None, cond, inl, inr}
use Rattle.std.specs.Prelude.{slice_get, ◌==◌, ◌⊎◌, option_and_then}
use Rattle.std.proofs.lemmas.Bool.{cases_Bool, cases_lt, eq-eqb, false≢true}
use Rattle.cell_base.specs.declared.steps.ChannelOp.{ChannelOp}
use Rattle.cell_base.specs.declared.steps.ChannelOp.TheVariants.{Read, Count, Write}
use Rattle.cell_base.specs.declared.steps.Step.{Step}
use Rattle.cell_base.specs.declared.steps.Step.TheVariants.{Exec, Piece, Elem, Retire, Atomic, Host}
use Rattle.tag_groups.specs.declared.Request.{Request}
use Rattle.cell_machine.specs.Spe.{Spe}
use Rattle.cell_machine.specs.State.{State}
use Rattle.cell_machine.specs.Exec.{asks}
use Rattle.cell_machine.specs.Run.{Ran, IsRun}
use Rattle.cell_machine.proofs.Same.{eq_is, some_same}
use Rattle.cell_machine.proofs.Completion.{next-act}
use Rattle.cell_machine.proofs.Bounds.{act-length}
use Rattle.race_order.specs.Told.{trace_in}
use Rattle.reorder_laws.specs.OrderedLaws.{IsOrdered}
use Rattle.race_order.proofs.Runs.{is-orderly}
use Rattle.race_check.proofs.Prefixes.{run-told}
use Rattle.reorder_laws.specs.SameDeeds.{IsOfEvents}
use Rattle.reorder_laws.specs.Recorded.{Recorded, IsRecorded, count_of, spe_before, is_exec, asked, asked_after}
use Rattle.reorder_laws.specs.OrderLaws.{Orders, OrdersElements}
use Rattle.reorder_laws.proofs.Ordering.{runs-order, runs-fit}
use Rattle.reorder_laws.specs.OrderedLaws.{BoxesFit}
use Rattle.reorder_laws.specs.Frames.{HasFrames, IsFaultless}
use Rattle.reorder_laws.proofs.Frames.{runs-have_frames}
use Rattle.reorder_laws.specs.Facts.{AsksForAll, RequestsAll, HasTags, QueuesUnasked, QueuesHaveRoom, SendsNothing, HearsNothing, HostSignalsNothing}
use Rattle.reorder_laws.specs.Places.{spe_at, Asks}
use Rattle.reorder_laws.specs.Recording.{Records}
use Rattle.reorder_laws.specs.Settled.{IsSettled, IsSettledChannel, AsksForTags, ReadsTags}
use Rattle.cell_machine.specs.Moves.{is_complete}
use Rattle.cell_machine.specs.Order.{is_step_of}
use Rattle.race_order.specs.Trace.{is_of}
use Rattle.reorder_laws.proofs.Atomics.{runs-chain_atomics}
use Rattle.reorder_laws.specs.Laws.{AtomicsChain}
use Rattle.reorder_laws.proofs.AtomicFacts.{atomics_read}
use Rattle.reorder_laws.proofs.Rooms.{has_from}
use Rattle.reorder_laws.proofs.After.{get_in}

pub record HasFacts (m : Ran) (r : Recorded) : Type 0 where
  pub frames : HasFrames r
  pub faultless : IsFaultless r
  pub requests : RequestsAll r
  pub tags : HasTags r
  pub counts : (j p rt ch : ℕ) → j < r.size → p < count_of r → r.step j ≡ Exec p → asks (spe_before r p j) ≡ Some (Count rt ch) → ⊥
  pub orders : Orders (IsOrdered m) r
  pub unasked : QueuesUnasked r
  pub room : QueuesHaveRoom (IsOrdered m) r
  pub fit : BoxesFit r
  pub chain : AtomicsChain (IsOrdered m) r
  pub lists : OrdersElements (IsOrdered m) r
  pub sends : SendsNothing r
  pub hears : HearsNothing r
  pub silent_host : HostSignalsNothing r

pub exec_is : (p : ℕ) (s : Step) → is_exec p s ≡ true → s ≡ Exec p
exec_is p (Exec q) h = ap Exec (eq_is q p h)
exec_is p (Piece q c e k) h = absurd (false≢true h)
exec_is p (Elem q c) h = absurd (false≢true h)
exec_is p (Retire q c) h = absurd (false≢true h)
exec_is p (Atomic q) h = absurd (false≢true h)
exec_is p Host h = absurd (false≢true h)

module _ (m : Ran) (r : Recorded) (run : IsRun m.setup m.steps) (settled : IsSettled m) (of : Records m r) (rec : IsRecorded r) where
  counts : (j : ℕ) → j ≤ r.size → length (r.state j).spes ≡ count_of r
  counts zero low = refl
  counts (suc j) low =
      let a = next-act (r.state j) (r.step j) (r.state (suc j)) (rec.made j low) in
      ap length (sym a.2) ∙ act-length (r.state j) (r.step j) a.0 a.1 ∙ counts j (omega (arith, low))

  -- processor p before place j
  pub spe_there : (j p : ℕ) → j ≤ r.size → p < count_of r → spe_at m j p ≡ Some (spe_before r p j)
  spe_there j p low low_p = ap (option_and_then (λ (M : State). slice_get M.spes p)) (of.at j low) ∙ get_in (r.state j).spes p (omega (arith, low_p, counts j low))

  faultless : IsFaultless r
  faultless j p low low_p = settled.faults j p (spe_before r p j) (spe_there j p low low_p)

  frames : HasFrames r
  frames = runs-have_frames r rec faultless

  tags : HasTags r
  tags j p c d low low_p at =
      let i = frames.issued_at j p c d low low_p at in
      let q = (is-orderly m (trace_in m) (run-told m run)).1 in
      ((q i.0 (record { step = r.step i.0; effect = r.effect i.0 }) (of.event i.0 (omega (arith, low, i.1)))).issue p c d i.2.step i.2.note).1

  requests : RequestsAll r
  unfolding asked
  requests zero p q low low_p e = absurd (nothing e)
    where
      nothing : None ≡ Some q → ⊥
      nothing e = cc
  requests (suc j) p q low low_p e = on (cases_Bool (is_exec p (r.step j))) (requests j p q (omega (arith, low)) low_p)
    where
      P : Spe
      P = spe_before r p j

      some_is : (a b : Request) → Some a ≡ Some b → a ≡ b
      some_is a b e = cc

      nothing : None ≡ Some q → ⊥
      nothing e = cc

      by_op : (o : Option ChannelOp) → r.step j ≡ Exec p → asks (spe_before r p j) ≡ o → asked_after (spe_before r p j) o (asked r p j) ≡ Some q → (asked r p j ≡ Some q → AsksForAll q) → AsksForAll q
      by_op None s a h was = was h
      by_op (Some (Read rt ch)) s a h was = go (ch == 24) h
        where
          go : (b : Bool) → cond b None (asked r p j) ≡ Some q → AsksForAll q
          go true h = absurd (nothing h)
          go false h = was h
      by_op (Some (Count rt ch)) s a h was = was h
      by_op (Some (Write ch value)) s a h was = go (cases_Bool (ch == 23))
        where
          asks_it : ch ≡ 23 → Asks m j p (Write 23 value)
          asks_it c = record { step = of.step j (omega (arith, low)) ∙ ap Some s; spe = spe_before r p j; at = spe_there j p (omega (arith, low)) low_p; asks_is = a ∙ ap (λ ch. Some (Write ch value)) c }

          go : ((ch == 23) ≡ true) ⊎ ((ch == 23) ≡ false) → AsksForAll q
          go (inl t) =
              let is = some_is (record { how = value; mask = (spe_before r p j).tags.mask }) q (sym (ap (λ b. cond b (Some (record { how = value; mask = (spe_before r p j).tags.mask })) (asked r p j)) t) ∙ h) in
              record { all = subst (λ (q : Request). 1 < q.how) is (settled.tags.all j p value (asks_it (eq_is ch 23 t))) }
          go (inr t) = was (sym (ap (λ b. cond b (Some (record { how = value; mask = (spe_before r p j).tags.mask })) (asked r p j)) t) ∙ h)

      on : (is_exec p (r.step j) ≡ true) ⊎ (is_exec p (r.step j) ≡ false) → (asked r p j ≡ Some q → AsksForAll q) → AsksForAll q
      on (inl t) was = by_op (asks (spe_before r p j)) (exec_is p (r.step j) t) refl (sym (ap (λ b. cond b (asked_after (spe_before r p j) (asks (spe_before r p j)) (asked r p j)) (asked r p j)) t) ∙ e) was
      on (inr t) was = was (sym (ap (λ b. cond b (asked_after (spe_before r p j) (asks (spe_before r p j)) (asked r p j)) (asked r p j)) t) ∙ e)

  counts_nothing : (j p rt ch : ℕ) → j < r.size → p < count_of r → r.step j ≡ Exec p → asks (spe_before r p j) ≡ Some (Count rt ch) → ⊥
  counts_nothing j p rt ch low low_p s a =
      settled.counts j p rt ch (record { step = of.step j low ∙ ap Some s; spe = spe_before r p j; at = spe_there j p (omega (arith, low)) low_p; asks_is = a })

  sends : SendsNothing r
  sends j p c d low low_p at =
      let i = frames.issued_at j p c d low low_p at in
      settled.channels.commands i.0 p c d (record { event = record { step = r.step i.0; effect = r.effect i.0 }; at = of.event i.0 (omega (arith, low, i.1)); is = i.2.step; notes = i.2.note })

  outside : (channel : ℕ) → IsSettledChannel channel → channel < 12 → ⊥
  outside channel (inl is) low = omega (arith, is, low)
  outside channel (inr within) low = let high = within.0 in omega (arith, high, low)

  hears : HearsNothing r
  hears j p low low_p s h = on (asks (spe_before r p j)) refl h
    where
      asked_here : (op : ChannelOp) → asks (spe_before r p j) ≡ Some op → Asks m j p op
      asked_here op a = record { step = of.step j low ∙ ap Some s; spe = spe_before r p j; at = spe_there j p (omega (arith, low)) low_p; asks_is = a }

      on : (o : Option ChannelOp) → asks (spe_before r p j) ≡ o → IsOfEvents o → ⊥
      on None a h = h
      on (Some (Read rt ch)) a h = outside ch (settled.channels.reads j p ch (record { register = rt; reads = asked_here (Read rt ch) a })) h
      on (Some (Count rt ch)) a h = h
      on (Some (Write ch value)) a h = outside ch (settled.channels.writes j p ch value (asked_here (Write ch value) a)) h

  silent_host : HostSignalsNothing r
  silent_host j q x low s note = settled.channels.host j q x (record { event = record { step = r.step j; effect = r.effect j }; at = of.event j low; is = s; notes = note })

  -- an unanswered request was made at some place, and the status wasn't read since
  record IsOpenSince (p j : ℕ) : Type 0 where
    place : ℕ
    below : place < j
    value : ℕ
    asks_for : AsksForTags m place p value
    unread : (k : ℕ) → place < k → k < j → ReadsTags m p k → ⊥

  step_is : (k p : ℕ) (s t : Step) → slice_get m.steps k ≡ Some s → slice_get m.steps k ≡ Some t → s ≡ t
  step_is k p s t a b = some_same s t (sym a ∙ b)

  asks_is_one : (k p : ℕ) (op other : ChannelOp) → Asks m k p op → Asks m k p other → op ≡ other
  asks_is_one k p op other a b = some_same op other (sym a.asks_is ∙ ap asks (some_same a.spe b.spe (sym a.at ∙ b.at)) ∙ b.asks_is)

  later_open : (p j : ℕ) → IsOpenSince p j → (ReadsTags m p j → ⊥) → IsOpenSince p (suc j)
  later_open p j o none = record {
    place = o.place;
    below = omega (arith, o.below);
    value = o.value;
    asks_for = o.asks_for;
    unread = λ k low high h. elim (cases_lt k j) [
      | inl less ↦ o.unread k low less h
      | inr more ↦ none (subst (ReadsTags m p) (let e : k ≡ j = omega (arith, more, high) in e) h)
    ];
  }

  open_since : (j p : ℕ) (q : Request) → j ≤ r.size → p < count_of r → asked r p j ≡ Some q → IsOpenSince p j
  unfolding asked
  open_since zero p q low low_p e = absurd (nothing e)
    where
      nothing : None ≡ Some q → ⊥
      nothing e = cc
  open_since (suc j) p q low low_p e = on (cases_Bool (is_exec p (r.step j))) (open_since j p q (omega (arith, low)) low_p)
    where
      nothing : None ≡ Some q → ⊥
      nothing e = cc

      asked_here : (op : ChannelOp) → r.step j ≡ Exec p → asks (spe_before r p j) ≡ Some op → Asks m j p op
      asked_here op s a = record { step = of.step j low ∙ ap Some s; spe = spe_before r p j; at = spe_there j p (omega (arith, low)) low_p; asks_is = a }

      no_read : (op : Option ChannelOp) → r.step j ≡ Exec p → asks (spe_before r p j) ≡ op → ((rt : ℕ) → op ≡ Some (Read rt 24) → ⊥) → ReadsTags m p j → ⊥
      no_read op s a none h = none h.register (sym a ∙ ap asks (some_same (spe_before r p j) h.reads.spe (sym (spe_there j p (omega (arith, low)) low_p) ∙ h.reads.at)) ∙ h.reads.asks_is)

      by_op : (o : Option ChannelOp) → r.step j ≡ Exec p → asks (spe_before r p j) ≡ o → asked_after (spe_before r p j) o (asked r p j) ≡ Some q → (asked r p j ≡ Some q → IsOpenSince p j) → IsOpenSince p (suc j)
      by_op None s a h was = later_open p j (was h) (no_read None s a (λ rt e. absurd (cc)))
      by_op (Some (Read rt ch)) s a h was = go (cases_Bool (ch == 24))
        where
          go : ((ch == 24) ≡ true) ⊎ ((ch == 24) ≡ false) → IsOpenSince p (suc j)
          go (inl t) = absurd (nothing (sym (ap (λ b. cond b None (asked r p j)) t) ∙ h))
          go (inr t) = later_open p j (was (sym (ap (λ b. cond b None (asked r p j)) t) ∙ h)) (no_read (Some (Read rt ch)) s a (λ rt2 e. let c : ch ≡ 24 = cc in false≢true (sym t ∙ eq-eqb ch 24 c)))
      by_op (Some (Count rt ch)) s a h was = later_open p j (was h) (no_read (Some (Count rt ch)) s a (λ rt2 e. absurd (cc)))
      by_op (Some (Write ch value)) s a h was = go (cases_Bool (ch == 23))
        where
          go : ((ch == 23) ≡ true) ⊎ ((ch == 23) ≡ false) → IsOpenSince p (suc j)
          go (inl t) = record {
            place = j;
            below = omega arith;
            value = value;
            asks_for = asked_here (Write 23 value) s (a ∙ ap (λ ch. Some (Write ch value)) (eq_is ch 23 t));
            unread = λ k low high x. absurd (omega (arith, low, high));
          }
          go (inr t) = later_open p j (was (sym (ap (λ b. cond b (Some (record { how = value; mask = (spe_before r p j).tags.mask })) (asked r p j)) t) ∙ h)) (no_read (Some (Write ch value)) s a (λ rt2 e. absurd (cc)))

      on : (is_exec p (r.step j) ≡ true) ⊎ (is_exec p (r.step j) ≡ false) → (asked r p j ≡ Some q → IsOpenSince p j) → IsOpenSince p (suc j)
      on (inl t) was = by_op (asks (spe_before r p j)) (exec_is p (r.step j) t) refl (sym (ap (λ b. cond b (asked_after (spe_before r p j) (asks (spe_before r p j)) (asked r p j)) (asked r p j)) t) ∙ e) was
      on (inr t) was =
          later_open p j (was (sym (ap (λ b. cond b (asked_after (spe_before r p j) (asks (spe_before r p j)) (asked r p j)) (asked r p j)) t) ∙ e))
          (λ h. false≢true (sym t ∙ ap (is_exec p) (step_is j p (r.step j) (Exec p) (of.step j low) h.reads.step) ∙ eq-eqb p p refl))

  unasked : QueuesUnasked r
  unasked j p c d low low_p s note = on (asked r p j) refl
    where
      on : (o : Option Request) → asked r p j ≡ o → asked r p j ≡ None
      on None e = e
      on (Some q) e =
          let o = open_since j p q (omega (arith, low)) low_p e in
          let b = settled.tags.waits o.place j p o.value c d o.below o.asks_for (record { event = record { step = r.step j; effect = r.effect j }; at = of.event j low; is = s; notes = note }) in
          absurd (o.unread b.place b.above b.below b.holds)

  step_in : (b p : ℕ) (s : Step) → is_step_of p b s ≡ true → is_of p b s ≡ true
  step_in b p (Exec q) h = absurd (false≢true h)
  step_in b p (Piece q c e k) h = h
  step_in b p (Elem q c) h = h
  step_in b p (Retire q c) h = h
  step_in b p (Atomic q) h = absurd (false≢true h)
  step_in b p Host h = absurd (false≢true h)

  room : QueuesHaveRoom (IsOrdered m) r
  room j p c d low low_p s note =
      let h = settled.room j p c d (record { event = record { step = r.step j; effect = r.effect j }; at = of.event j low; is = s; notes = note }) in
      record {
        unclosed = h.unclosed;
        few = h.few;
        closed = λ b less. elim (h.closed b less) [
          | inl inside ↦ inl (has_from h.unclosed b inside)
          | inr closed ↦ inr (
            ap (λ (P : Spe). is_complete P.moves b) (some_same (spe_before r p j) closed.spe (sym (spe_there j p (omega (arith, low)) low_p) ∙ closed.at)) ∙ closed.complete,
            λ i l t. closed.ordered i (record { event = record { step = r.step i; effect = r.effect i }; at = of.event i l; is = step_in b p (r.step i) t }),
          )
        ];
      }

  ordered : Orders (IsOrdered m) r × OrdersElements (IsOrdered m) r
  ordered = runs-order m r record { size = of.size; told = run-told m run; at = of.at; event = of.event } rec faultless

  pub has-facts : HasFacts m r
  has-facts = record { sends = sends; hears = hears; silent_host = silent_host; frames = frames; faultless = faultless; requests = requests; tags = tags; counts = counts_nothing; orders = ordered.0; lists = ordered.1; unasked = unasked; room = room; chain = runs-chain_atomics m r record { size = of.size; told = run-told m run; at = of.at; event = of.event } rec faultless (atomics_read m r of rec faultless settled.atomics); fit = runs-fit m r record { size = of.size; told = run-told m run; at = of.at; event = of.event } rec faultless }
