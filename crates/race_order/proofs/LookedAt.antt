-- The sets that a step looks at have exactly the steps that it comes after.
use Rattle.std.proofs.Common.{◌≡◌, ℕ, ◌+◌, ◌%◌, ◌==◌, ◌&&◌, ◌<◌, Bool, true, false, ◌++◌, length, take, Some, ◌⊎◌, inl, inr, refl, sym, ap, ◌∙◌, subst, subst₂, arith}
use Rattle.std.specs.Prelude.{slice_get}
use Rattle.std.proofs.lemmas.Bool.{cases_order, and_from, eq-eqb, and_parts, eqb-true}
use Rattle.std.proofs.lemmas.Option.{slice_get_within}
use Rattle.std.proofs.lemmas.List.{length-take, take-take}
use Rattle.cell_base.specs.declared.steps.Step.{Step}
use Rattle.cell_base.specs.declared.steps.Step.TheVariants.{Exec, Piece, Elem, Retire, Atomic, Host}
use Rattle.cell_machine.specs.declared.effect.Place.{Place}
use Rattle.cell_machine.specs.declared.effect.Place.TheVariants.{Memory, Local}
use Rattle.cell_machine.specs.declared.effect.Span.{Span}
use Rattle.cell_machine.specs.declared.effect.Note.{Note}
use Rattle.cell_machine.specs.declared.effect.Note.TheVariants.{Issue, AtomicIssue, AtomicRead, Put, Take, Ended, Awaited, Signal}
use Rattle.mfc_command.specs.declared.command.Command.{Command}
use Rattle.race_order.specs.Trace.{Event, Trace, IsStep, Notes, IssuesAt, IsStepOf, is_put, is_take, puts, takes, mailbox_size}
use Rattle.race_order.specs.Lines.{OnLine, IsLine, moves_line}
use Rattle.race_order.specs.Rules.{Plain, Program, Script, Issued, AtomicIssued, NextAtomic, AtomicSeen, Line, Passed, PlaceFree, Signalled, Finished, Edge, Ordered, One, Then}
use Rattle.race_order.specs.declared.roles.Role.{Role}
use Rattle.race_order.specs.declared.roles.Role.TheVariants.{OfLine, OfBox, OfEnd}
use Rattle.race_order.specs.Roles.{Source, Joins, read_roles, step_reads, note_reads, line_roles, line_of, line_in, atomics_of, end_seen, put_role, take_role}
use Rattle.race_order.specs.Orderly.{IsOrderly, IsTaken}
use Rattle.race_order.proofs.Places.{get_take, same_get}
use Rattle.race_order.proofs.Among.{Among, Every, among_left, among_right, every_both}
use Rattle.race_order.proofs.BoxChain.{Through, In, Out, box_chain, ahead}

pub step_here : (trace : Trace) (i b : ℕ) (s : Step) → i < b → IsStep trace i s → IsStep (take b trace) i s
step_here trace i b s low h = record { event = h.event; at = get_take trace b i low ∙ h.at; is = h.is }

pub notes_here : (trace : Trace) (i b : ℕ) (s : Step) (t : Note) → i < b → Notes trace i s t → Notes (take b trace) i s t
notes_here trace i b s t low h = record { event = h.event; at = get_take trace b i low ∙ h.at; is = h.is; notes = h.notes }

pub step_there : (trace : Trace) (i b : ℕ) (s : Step) → i < b → IsStep (take b trace) i s → IsStep trace i s
step_there trace i b s low h = record { event = h.event; at = sym (get_take trace b i low) ∙ h.at; is = h.is }

pub notes_there : (trace : Trace) (i b : ℕ) (s : Step) (t : Note) → i < b → Notes (take b trace) i s t → Notes trace i s t
notes_there trace i b s t low h = record { event = h.event; at = sym (get_take trace b i low) ∙ h.at; is = h.is; notes = h.notes }

-- a step is of one kind
pub same_step : (trace : Trace) (i : ℕ) (s t : Step) → IsStep trace i s → IsStep trace i t → s ≡ t
same_step trace i s t h g = let e : h.event ≡ g.event = same_get (slice_get trace i) h.event g.event h.at g.at in cc

pub notes_step : (trace : Trace) (i : ℕ) (s : Step) (t : Note) → Notes trace i s t → IsStep trace i s
notes_step trace i s t h = record { event = h.event; at = h.at; is = h.is }

-- at place i a command is issued of which a step stands at place j
pub record IsIssued (trace : Trace) (i j : ℕ) : Type 0 where
  pub spe : ℕ
  pub command : ℕ
  pub issue : (asked : Command) × IssuesAt trace i spe command asked
  pub step : IsStepOf trace j spe command

module _ (Rule : Trace → ℕ → ℕ → Type 0) (plain : (t : Trace) (i j : ℕ) → Plain t i j → Rule t i j) where
  program : (trace : Trace) (p i j : ℕ) → i < j → IsStep trace i (Exec p) → IsStep trace j (Exec p) → Edge Rule trace i j
  program trace p i j low a b =
      record { below = low; rule = plain _ _ _ (Program p (step_here trace i (j + 1) (Exec p) (omega arith) a) (step_here trace j (j + 1) (Exec p) (omega arith) b)) }

  module _ (n : ℕ) (trace : Trace) (orderly : IsOrderly n trace) where
    -- the issue of the operation that the Atomic step at j does
    issued_at : (p j : ℕ) → IsStep trace j (Atomic p) → IsTaken (take j trace) p
    issued_at p j b = (orderly j b.event b.at).slot p b.is

    issue_edge : (p j : ℕ) (b : IsStep trace j (Atomic p)) (i : ℕ) → i < j → Notes trace i (Exec p) AtomicIssue → ((k : ℕ) → i < k → k < j → IsStep trace k (Atomic p) → ⊥) → Edge Rule trace i j
    issue_edge p j b i low a none =
        record {
          below = low;
          rule =
              plain _ _ _
              (AtomicIssued p (notes_here trace i (j + 1) (Exec p) AtomicIssue (omega arith) a) (step_here trace j (j + 1) (Atomic p) (omega arith) b)
              (λ k more less at. none k more less (step_there trace k (j + 1) (Atomic p) (omega arith) at)));
        }

    -- the issue of the atomic command whose step stands at place j
    record LastIssue (p j : ℕ) : Type 0 where
      place : ℕ
      below : place < j
      notes : Notes trace place (Exec p) AtomicIssue
      none : (x : ℕ) → place < x → x < j → IsStep trace x (Atomic p) → ⊥

    last_issue : (p j : ℕ) → IsStep trace j (Atomic p) → LastIssue p j
    last_issue p j b =
        let t : IsTaken (take j trace) p = issued_at p j b in
        let inside : t.place < length (take j trace) = slice_get_within (take j trace) t.place t.issue.event t.issue.at in
        let less : t.place < j = omega (arith, inside, length-take j trace) in
        record { place = t.place; below = less; notes = notes_there trace t.place j (Exec p) AtomicIssue less t.issue; none = λ x more under s. t.none x more (step_here trace x j (Atomic p) under s) }

    last_edge : (p j : ℕ) → IsStep trace j (Atomic p) → (t : LastIssue p j) → Edge Rule trace t.place j
    last_edge p j b t = issue_edge p j b t.place t.below t.notes t.none

    -- every earlier issue of an atomic operation comes before an Atomic step
    pub slot_chain : (p i j : ℕ) → i < j → Notes trace i (Exec p) AtomicIssue → IsStep trace j (Atomic p) → Ordered Rule trace i j
    slot_chain p i j low a b = let t : LastIssue p j = last_issue p j b in by t (cases_order i t.place)
      where
        by : (t : LastIssue p j) → (i ≡ t.place) ⊎ ((i < t.place) ⊎ (t.place < i)) → Ordered Rule trace i j
        by t (inl same) = One (subst (λ x. Edge Rule trace x j) (sym same) (last_edge p j b t))
        by t (inr (inl up)) = Then (One (program trace p i t.place up (notes_step trace i (Exec p) AtomicIssue a) (notes_step trace t.place (Exec p) AtomicIssue t.notes))) (last_edge p j b t)
        by t (inr (inr down)) = One (issue_edge p j b i low a (λ x more under s. t.none x (omega arith) under s))

    -- the Atomic steps of one processor come one after the other
    pub atomic_chain : (p i j : ℕ) → i < j → IsStep trace i (Atomic p) → IsStep trace j (Atomic p) → Ordered Rule trace i j
    atomic_chain p i j low a b = let t : LastIssue p j = last_issue p j b in by t (cases_order i t.place)
      where
        by : (t : LastIssue p j) → (i ≡ t.place) ⊎ ((i < t.place) ⊎ (t.place < i)) → Ordered Rule trace i j
        by t (inl same) =
            let s : IsStep trace i (Exec p) = subst (λ x. IsStep trace x (Exec p)) (sym same) (notes_step trace t.place (Exec p) AtomicIssue t.notes) in
            let f : Atomic p ≡ Exec p = same_step trace i (Atomic p) (Exec p) a s in
            absurd cc
        by t (inr (inl up)) =
            Then
            (One record {
              below = up;
              rule = plain _ _ _ (NextAtomic p (step_here trace i (t.place + 1) (Atomic p) (omega arith) a) (notes_here trace t.place (t.place + 1) (Exec p) AtomicIssue (omega arith) t.notes));
            })
            (last_edge p j b t)
        by t (inr (inr down)) = absurd (t.none i down low a)

    source_event : (r : Role) (i b : ℕ) (e : Event) → i < b → slice_get (take b trace) i ≡ Some e → Joins (take i trace) e r → Source trace r i
    source_event r i b e low at joins = record { event = e; at = sym (get_take trace b i low) ∙ at; joins = joins }

    through : (q m r i : ℕ) → Source trace (OfBox q m r) i → Through trace q m r i
    through q m r i h = at h.joins
      where
        at : Joins (take i trace) h.event (OfBox q m r) → Through trace q m r i
        at (inl g) = In (puts q m (take i trace)) record { element = h.event; at = h.at; passes = g.0; number = refl } g.1
        at (inr g) = Out (takes q m (take i trace)) record { element = h.event; at = h.at; passes = g.0; number = refl } g.1

    -- the step at place j
    module _ (j : ℕ) (e : Event) (here : slice_get trace j ≡ Some e) where
      abbrev Earlier : Role → Type 0
      Earlier r = (i : ℕ) → i < j → Source trace r i → Ordered Rule trace i j

      edge_by : (i : ℕ) → i < j → Plain (take (j + 1) trace) i j → Edge Rule trace i j
      edge_by i low h = record { below = low; rule = plain _ _ _ h }

      now : slice_get (take (j + 1) trace) j ≡ Some e
      now = get_take trace (j + 1) j (omega arith) ∙ here

      of_itself : (p c : ℕ) → ((p == p) && (c == c)) ≡ true
      of_itself p c = and_from _ _ (eq-eqb p p refl) (eq-eqb c c refl)

      by_step : (s : Step) → e.step ≡ s → Every Earlier (step_reads s)
      by_step (Exec p) q = (λ i low h. One (program trace p i j low record { event = h.event; at = h.at; is = h.joins } record { event = e; at = here; is = q }), tt)
      by_step (Piece p c x k) q = tt
      by_step (Elem p c) q = tt
      by_step (Retire p c) q = tt
      by_step (Atomic p) q = (λ i low h. slot_chain p i j low record { event = h.event; at = h.at; is = h.joins.0; notes = h.joins.1 } record { event = e; at = here; is = q }, tt)
      by_step Host q =
          (λ i low h. One (edge_by i low (Script record { event = h.event; at = get_take trace (j + 1) i (omega arith) ∙ h.at; is = h.joins } record { event = e; at = now; is = q })), tt)

      by_atomic_issue : (s : Step) → e.step ≡ s → e.effect.note ≡ AtomicIssue → Every Earlier (atomics_of s)
      by_atomic_issue (Exec p) q t =
          (λ i low h. One (edge_by i low (NextAtomic p record { event = h.event; at = get_take trace (j + 1) i (omega arith) ∙ h.at; is = h.joins } record { event = e; at = now; is = q; notes = t })), tt)
      by_atomic_issue _ q t = tt

      by_atomic_read : (s : Step) → e.step ≡ s → e.effect.note ≡ AtomicRead → Every Earlier (atomics_of s)
      by_atomic_read (Exec p) q t =
          (λ i low h. One (edge_by i low (AtomicSeen p record { event = h.event; at = get_take trace (j + 1) i (omega arith) ∙ h.at; is = h.joins } record { event = e; at = now; is = q; notes = t })), tt)
      by_atomic_read _ q t = tt

      by_awaited : (p : ℕ) (s : Step) → e.step ≡ s → e.effect.note ≡ Awaited p → Every Earlier (end_seen p s)
      by_awaited p Host q t = (λ i low h. One (edge_by i low (Finished p (ended i low h h.joins.1) record { event = e; at = now; is = q; notes = t })), tt)
        where
          ended : (i : ℕ) → i < j → (h : Source trace (OfEnd p) i) → (h.event.step ≡ Exec p) ⊎ ((c : ℕ) × (h.event.step ≡ Elem p c))
              → Notes (take (j + 1) trace) i (Exec p) Ended ⊎ ((c : ℕ) × Notes (take (j + 1) trace) i (Elem p c) Ended)
          ended i low h (inl x) = inl record { event = h.event; at = get_take trace (j + 1) i (omega arith) ∙ h.at; is = x; notes = h.joins.0 }
          ended i low h (inr x) = inr (x.0, record { event = h.event; at = get_take trace (j + 1) i (omega arith) ∙ h.at; is = x.1; notes = h.joins.0 })
      by_awaited p _ q t = tt

      by_note : (s : Step) (t : Note) → e.step ≡ s → e.effect.note ≡ t → Every Earlier (note_reads (take j trace) s t)
      by_note s AtomicIssue q t = by_atomic_issue s q t
      by_note s AtomicRead q t = by_atomic_read s q t
      by_note s (Awaited p) q t = by_awaited p s q t
      by_note s (Put x m) q t =
          let h : Through trace x m (puts x m (take j trace) % mailbox_size m) j =
          In (puts x m (take j trace)) record { element = e; at = here; passes = ap (is_put x m) t ∙ of_itself x m; number = refl } refl in
          (λ i low g. box_chain Rule plain n trace orderly x m (puts x m (take j trace) % mailbox_size m) i j (through x m _ i g) h low, tt)
      by_note s (Take x m) q t =
          let h : Through trace x m (takes x m (take j trace) % mailbox_size m) j =
          Out (takes x m (take j trace)) record { element = e; at = here; passes = ap (is_take x m) t ∙ of_itself x m; number = refl } refl in
          (λ i low g. box_chain Rule plain n trace orderly x m (takes x m (take j trace) % mailbox_size m) i j (through x m _ i g) h low, tt)
      by_note s (Signal x r) q t =
          (λ i low h. One (edge_by i low (Signalled x r record { event = h.event; at = get_take trace (j + 1) i (omega arith) ∙ h.at; notes = h.joins } record { event = e; at = now; notes = t })), tt)
      by_note s _ q t = tt

      on_line : (x : Place) (b : Bool) (a : ℕ) → (x ≡ Memory → b ≡ true → OnLine (take (j + 1) trace) j a) → Every Earlier (line_in x b a)
      on_line Memory true a on =
          (λ i low h. One (edge_by i low (Line a record { event = h.event; at = get_take trace (j + 1) i (omega arith) ∙ h.at; moves = subst (λ t. moves_line t h.event.step ≡ true) (sym (take-take i (j + 1) trace (omega arith))) h.joins.0; line = h.joins.1 } (on refl refl))), tt)
      on_line Memory false a on = tt
      on_line (Local p) b a on = tt

      moves_now : moves_line (take j trace) e.step ≡ true → moves_line (take j (take (j + 1) trace)) e.step ≡ true
      moves_now q = subst (λ t. moves_line t e.step ≡ true) (sym (take-take j (j + 1) trace (omega arith))) q

      by_lines : (b : Bool) → moves_line (take j trace) e.step ≡ b → Every Earlier (line_roles b e.effect)
      by_lines true q =
          every_both Earlier (line_of e.effect.reads) (line_of e.effect.writes)
          (on_line e.effect.reads.place (e.effect.reads.len == 128) e.effect.reads.at
          (λ x b. record { event = e; at = now; moves = moves_now q; line = inl record { memory = x; begins = refl; long = eqb-true _ _ b } }))
          (on_line e.effect.writes.place (e.effect.writes.len == 128) e.effect.writes.at
          (λ x b. record { event = e; at = now; moves = moves_now q; line = inr record { memory = x; begins = refl; long = eqb-true _ _ b } }))
      by_lines false q = tt

      -- what the sets hold comes before
      pub looks_sound : Every Earlier (read_roles (take j trace) e)
      looks_sound =
          every_both Earlier (step_reads e.step) (note_reads (take j trace) e.step e.effect.note ++ line_roles (moves_line (take j trace) e.step) e.effect)
          (by_step e.step refl)
          (every_both Earlier (note_reads (take j trace) e.step e.effect.note) (line_roles (moves_line (take j trace) e.step) e.effect) (by_note e.step e.effect.note refl refl) (by_lines (moves_line (take j trace) e.step) refl))

      module _ (i : ℕ) (low : i < j) where
        abbrev Has : Role → Type 0
        Has r = Source trace r i

        same : (f : Event) → slice_get (take (j + 1) trace) j ≡ Some f → e ≡ f
        same f at = same_get (slice_get (take (j + 1) trace) j) e f now at

        in_steps : (s : Step) → e.step ≡ s → Among Has (step_reads s) → Among Has (read_roles (take j trace) e)
        in_steps s q h = among_left Has (step_reads e.step) (note_reads (take j trace) e.step e.effect.note ++ line_roles (moves_line (take j trace) e.step) e.effect) (subst (λ x. Among Has (step_reads x)) (sym q) h)

        in_notes : (s : Step) (t : Note) → e.step ≡ s → e.effect.note ≡ t → Among Has (note_reads (take j trace) s t) → Among Has (read_roles (take j trace) e)
        in_notes s t q u h =
            among_right Has (step_reads e.step) (note_reads (take j trace) e.step e.effect.note ++ line_roles (moves_line (take j trace) e.step) e.effect)
            (among_left Has (note_reads (take j trace) e.step e.effect.note) (line_roles (moves_line (take j trace) e.step) e.effect)
            (subst (λ x. Among Has (note_reads (take j trace) x e.effect.note)) (sym q) (subst (λ y. Among Has (note_reads (take j trace) s y)) (sym u) h)))

        in_lines : (b : Bool) → moves_line (take j trace) e.step ≡ b → Among Has (line_roles b e.effect) → Among Has (read_roles (take j trace) e)
        in_lines b q h =
            among_right Has (step_reads e.step) (note_reads (take j trace) e.step e.effect.note ++ line_roles (moves_line (take j trace) e.step) e.effect)
            (among_right Has (note_reads (take j trace) e.step e.effect.note) (line_roles (moves_line (take j trace) e.step) e.effect) (subst (λ x. Among Has (line_roles x e.effect)) (sym q) h))

        before_step : (f : Event) → slice_get (take (j + 1) trace) i ≡ Some f → slice_get trace i ≡ Some f
        before_step f at = sym (get_take trace (j + 1) i (omega arith)) ∙ at

        takes_of : take i (take (j + 1) trace) ≡ take i trace
        takes_of = take-take i (j + 1) trace (omega arith)

        takes_here : take j (take (j + 1) trace) ≡ take j trace
        takes_here = take-take j (j + 1) trace (omega arith)

        put_note : (q m : ℕ) (s : Step) (t : Note) → is_put q m t ≡ true → Has (put_role q m (take j trace)) → Among Has (note_reads (take j trace) s t)
        put_note q m s (Put x y) of h = let a = and_parts _ _ of in inl (subst₂ (λ v w. Has (put_role v w (take j trace))) (sym (eqb-true x q a.0)) (sym (eqb-true y m a.1)) h)
        put_note q m s _ of h = cc

        take_note : (q m : ℕ) (s : Step) (t : Note) → is_take q m t ≡ true → Has (take_role q m (take j trace)) → Among Has (note_reads (take j trace) s t)
        take_note q m s (Take x y) of h = let a = and_parts _ _ of in inl (subst₂ (λ v w. Has (take_role v w (take j trace))) (sym (eqb-true x q a.0)) (sym (eqb-true y m a.1)) h)
        take_note q m s _ of h = cc

        line_at : (span : Span) (a : ℕ) → IsLine span a → Has (OfLine a) → Among Has (line_of span)
        line_at span a on h = at span.place (span.len == 128) span.at on.memory (eq-eqb _ _ on.long) on.begins
          where
            at : (x : Place) (b : Bool) (y : ℕ) → x ≡ Memory → b ≡ true → y ≡ a → Among Has (line_in x b y)
            at Memory true y u v w = inl (subst (λ z. Has (OfLine z)) (sym w) h)
            at Memory false y u v w = cc
            at (Local p) b y u v w = cc

        -- what comes directly before is in one of the sets
        pub looks_full : Plain (take (j + 1) trace) i j → Among Has (read_roles (take j trace) e) ⊎ IsIssued trace i j
        looks_full (Program p a b) = inl (in_steps (Exec p) (ap (λ f. f.step) (same b.event b.at) ∙ b.is) (inl record { event = a.event; at = before_step a.event a.at; joins = a.is }))
        looks_full (Script a b) = inl (in_steps Host (ap (λ f. f.step) (same b.event b.at) ∙ b.is) (inl record { event = a.event; at = before_step a.event a.at; joins = a.is }))
        looks_full (Issued p c command a b) = inr record { spe = p; command = c; issue = (command, notes_there trace i (j + 1) (Exec p) (Issue c command) (omega arith) a); step = record { event = b.event; at = sym (get_take trace (j + 1) j (omega arith)) ∙ b.at; is = b.is } }
        looks_full (AtomicIssued p a b none) =
            inl
            (in_steps (Atomic p) (ap (λ f. f.step) (same b.event b.at) ∙ b.is) (inl record { event = a.event; at = before_step a.event a.at; joins = (a.is, a.notes) }))
        looks_full (NextAtomic p a b) =
            inl
            (in_notes (Exec p) AtomicIssue (ap (λ f. f.step) (same b.event b.at) ∙ b.is) (ap (λ f. f.effect.note) (same b.event b.at) ∙ b.notes)
            (inl record { event = a.event; at = before_step a.event a.at; joins = a.is }))
        looks_full (AtomicSeen p a b) =
            inl
            (in_notes (Exec p) AtomicRead (ap (λ f. f.step) (same b.event b.at) ∙ b.is) (ap (λ f. f.effect.note) (same b.event b.at) ∙ b.notes)
            (inl record { event = a.event; at = before_step a.event a.at; joins = a.is }))
        looks_full (Line address a b) = inl (in_lines true (subst₂ (λ t (f : Event). moves_line t f.step ≡ true) takes_here (sym (same b.event b.at)) b.moves) (at b.line))
          where
            from : Has (OfLine address)
            from = record { event = a.event; at = before_step a.event a.at; joins = (subst (λ t. moves_line t a.event.step ≡ true) takes_of a.moves, a.line) }

            at : IsLine b.event.effect.reads address ⊎ IsLine b.event.effect.writes address → Among Has (line_of e.effect.reads ++ line_of e.effect.writes)
            at (inl h) = among_left Has (line_of e.effect.reads) (line_of e.effect.writes) (line_at e.effect.reads address (subst (λ f. IsLine f.effect.reads address) (sym (same b.event b.at)) h) from)
            at (inr h) = among_right Has (line_of e.effect.reads) (line_of e.effect.writes) (line_at e.effect.writes address (subst (λ f. IsLine f.effect.writes address) (sym (same b.event b.at)) h) from)
        looks_full (Passed q m k a b) =
            inl
            (in_notes e.step e.effect.note refl refl
            (take_note q m e.step e.effect.note (ap (λ f. is_take q m f.effect.note) (same b.event b.at) ∙ b.is)
            record {
              event = a.event;
              at = before_step a.event a.at;
              joins =
                  inl
                  (a.is, ap (λ x. x % mailbox_size m) (sym (ap (puts q m) takes_of) ∙ a.number ∙ sym b.number ∙ ap (takes q m) takes_here));
            }))
        looks_full (PlaceFree q m k a b) =
            inl
            (in_notes e.step e.effect.note refl refl
            (put_note q m e.step e.effect.note (ap (λ f. is_put q m f.effect.note) (same b.event b.at) ∙ b.is)
            record {
              event = a.event;
              at = before_step a.event a.at;
              joins =
                  inr
                  (a.is, ap (λ x. x % mailbox_size m) (sym (ap (takes q m) takes_of) ∙ a.number) ∙ sym (ahead m k) ∙ ap (λ x. x % mailbox_size m) (sym b.number ∙ ap (puts q m) takes_here));
            }))
        looks_full (Signalled q r a b) =
            inl
            (in_notes e.step (Signal q r) refl (ap (λ f. f.effect.note) (same b.event b.at) ∙ b.notes)
            (inl record { event = a.event; at = before_step a.event a.at; joins = a.notes }))
        looks_full (Finished p a b) =
            inl
            (in_notes Host (Awaited p) (ap (λ f. f.step) (same b.event b.at) ∙ b.is) (ap (λ f. f.effect.note) (same b.event b.at) ∙ b.notes) (inl (from a)))
          where
            from : Notes (take (j + 1) trace) i (Exec p) Ended ⊎ ((c : ℕ) × Notes (take (j + 1) trace) i (Elem p c) Ended) → Has (OfEnd p)
            from (inl h) = record { event = h.event; at = before_step h.event h.at; joins = (h.notes, inl h.is) }
            from (inr h) = record { event = h.1.event; at = before_step h.1.event h.1.at; joins = (h.1.notes, inr (h.0, h.1.is)) }
