-- The commands of a processor after a step.
use Rattle.std.proofs.Common.{◌≡◌, ℕ, suc, ◌+◌, ◌<◌, ◌≤◌, ◌==◌, Bool, true, false, List, [], ◌∷◌, ◌++◌, length, take, refl, sym, ap, ap₂, ◌∙◌, subst, arith, ◌⊎◌, inl, inr, Some, None}
use Rattle.std.specs.Prelude.{slice_get, if◌then◌else◌}
use Rattle.std.proofs.lemmas.Bool.{cases_lt, eqb-true, eq-eqb, both_ways}
use Rattle.std.proofs.lemmas.List.{map-append}
use Rattle.std.proofs.lemmas.Option.{slice_get_within}
use Rattle.cell_base.specs.declared.steps.Step.{Step}
use Rattle.cell_base.specs.declared.steps.Step.TheVariants.{Exec, Piece, Elem, Retire, Atomic, Host}
use Rattle.cell_machine.specs.declared.effect.Note.{Note}
use Rattle.cell_machine.specs.declared.effect.Note.TheVariants.{Issue}
use Rattle.cell_machine.specs.Run.{Ran}
use Rattle.mfc_command.specs.declared.command.Command.{Command}
use Rattle.race_order.specs.Trace.{Trace, Event, IsStepOf, is_of}
use Rattle.race_order.specs.Queue.{Has}
use Rattle.race_order.specs.Status.{status, stepped, begun, next_status, first_status, issued_as}
use Rattle.race_order.specs.Premises.{IsQueued, MayStep}
use Rattle.race_order.specs.Told.{trace_in}
use Rattle.race_order.specs.declared.progress.Progress.{Progress as Come}
use Rattle.race_order.proofs.Places.{take_step, same_get}
use Rattle.race_order.proofs.Histories.{same_progress, status_next, Came, Newly, Kept as Stays, Moved, came, later_at}
use Rattle.race_order.proofs.Elements.{may_at}
use Rattle.run_permute.specs.declared.kept.Kept.{Kept}
use Rattle.run_permute.specs.SettledLists.{Each, IsIn, AreApart, AreChanged}
use Rattle.run_permute.specs.Watches.{IsKnown, IsShut, IsKept, IsTaken, IsNew, AreKept, cmds_of, gone_on}
use Rattle.run_permute.proofs.SettledEntries.{each-end, in-end, in-front, in-last, apart-end, changed-each, changed-numbers, in-found}

module _ (m : Ran) (p j : ℕ) (e : Event) (here : slice_get (trace_in m) j ≡ Some e) (queued : IsQueued (trace_in m)) where
  after-step : (P : Trace → Type 0) → P (take j (trace_in m) ++ e ∷ []) → P (take (j + 1) (trace_in m))
  after-step P h = let same : j + 1 ≡ suc j = omega arith in subst (λ n. P (take n (trace_in m))) (sym same) (subst P (sym (take_step (trace_in m) j e here)) h)

  before-step : (P : Trace → Type 0) → P (take (j + 1) (trace_in m)) → P (take j (trace_in m) ++ e ∷ [])
  before-step P h = let same : j + 1 ≡ suc j = omega arith in subst P (take_step (trace_in m) j e here) (subst (λ n. P (take n (trace_in m))) same h)

  -- the step at j is one of the command exactly where its own step says so
  of-here : (c : ℕ) → IsStepOf (trace_in m) j p c → is_of p c e.step ≡ true
  of-here c h = ap (λ (x : Event). is_of p c x.step) (same_get (slice_get (trace_in m) j) e h.event here h.at) ∙ h.is

  goes-on : (c : ℕ) (s : Come) → Has (take j (trace_in m)) p c s → Has (take (j + 1) (trace_in m)) p c (gone_on p c s e.step e.effect.note)
  goes-on c s h =
      after-step (λ T. Has T p c (gone_on p c s e.step e.effect.note))
      (record { is = status_next p c (take j (trace_in m)) e ∙ ap (λ o. next_status p c o e) h.is })

  -- ---- one command

  -- what is so of the place j + 1: a step below j, or the one at j
  last-or : (x : ℕ) → x < j + 1 → (x < j) ⊎ (x ≡ j)
  last-or x low = on (cases_lt x j)
    where
      on : (x < j) ⊎ (j ≤ x) → (x < j) ⊎ (x ≡ j)
      on (inl h) = inl h
      on (inr h) = inr (omega arith)

  pub taken-one : (x : ℕ) (o n : Kept) → IsKept m p j x o → IsTaken p j e.step e.effect.note o n → IsKept m p (j + 1) x n
  taken-one x o n k t = record {
    has = subst (λ c. Has (take (j + 1) (trace_in m)) p c n.progress) (sym t.cmd) (subst (λ s. Has (take (j + 1) (trace_in m)) p o.cmd s) (sym t.progress) (goes-on o.cmd o.progress k.has));
    steps = λ i h. let r = old i (is_of p o.cmd e.step) refl (subst (IsIn i) t.steps h) in (r.0, subst (IsStepOf (trace_in m) i p) (sym t.cmd) r.1);
    left = λ i low of. left-by i (last-or i low) (subst (IsStepOf (trace_in m) i p) t.cmd of);
  }
    where
      old : (i : ℕ) (b : Bool) → is_of p o.cmd e.step ≡ b → IsIn i (if b then o.steps.items ++ j ∷ [] else o.steps.items) → (i < j + 1) × IsStepOf (trace_in m) i p o.cmd
      old i true is h = on (in-end i j o.steps.items h)
        where
          on : IsIn i o.steps.items ⊎ (j ≡ i) → (i < j + 1) × IsStepOf (trace_in m) i p o.cmd
          on (inl r) = let s = k.steps i r in let l : i < j = s.0 in (omega arith, s.1)
          on (inr same) = (omega arith, record { event = e; at = subst (λ y. slice_get (trace_in m) y ≡ Some e) same here; is = is })
      old i false is h = let s = k.steps i h in let l : i < j = s.0 in (omega arith, s.1)

      more : (i : ℕ) (b : Bool) → IsIn i o.steps.items → IsIn i (if b then o.steps.items ++ j ∷ [] else o.steps.items)
      more i true h = in-front i j o.steps.items h
      more i false h = h

      new : (b : Bool) → b ≡ true → IsIn j (if b then o.steps.items ++ j ∷ [] else o.steps.items)
      new true h = in-last j o.steps.items
      new false h = absurd (cc)

      or : (i : ℕ) → IsIn i o.steps.items ⊎ IsKnown m p x i → IsIn i n.steps.items ⊎ IsKnown m p x i
      or i (inl h) = inl (subst (IsIn i) (sym t.steps) (more i (is_of p o.cmd e.step) h))
      or i (inr h) = inr h

      left-by : (i : ℕ) → (i < j) ⊎ (i ≡ j) → IsStepOf (trace_in m) i p o.cmd → IsIn i n.steps.items ⊎ IsKnown m p x i
      left-by i (inl low) of = or i (k.left i low of)
      left-by i (inr same) of =
          let there : IsStepOf (trace_in m) j p o.cmd = subst (λ y. IsStepOf (trace_in m) y p o.cmd) same of in
          inl (subst (λ y. IsIn y n.steps.items) (sym same) (subst (IsIn j) (sym t.steps) (new (is_of p o.cmd e.step) (of-here o.cmd there))))

  -- a complete command makes no step
  pub shut-stays : (x c : ℕ) (s : Come) → Has (take j (trace_in m)) p c s → IsShut m p j x c s → IsShut m p (j + 1) x c s
  shut-stays x c s h k = record { complete = k.complete; known = λ i low of. on i (last-or i low) of }
    where
      never : IsStepOf (trace_in m) j p c → ⊥
      never of =
          let may : MayStep (take j (trace_in m)) p c of.event.step of.event.effect.note = may_at (trace_in m) queued j p c of in
          let same : may.progress ≡ s = same_progress (take j (trace_in m)) p c may.progress s may.has h in
          both_ways _ may.live (ap (λ (t : Come). t.done) same ∙ k.complete)

      on : (i : ℕ) → (i < j) ⊎ (i ≡ j) → IsStepOf (trace_in m) i p c → IsKnown m p x i
      on i (inl low) of = k.known i low of
      on i (inr same) of = absurd (never (subst (λ y. IsStepOf (trace_in m) y p c) same of))

  -- ---- all of them

  abbrev IsOr : ℕ → List Kept → ℕ → Come → Type 0
  IsOr x kept c s = IsIn c (cmds_of kept) ⊎ IsShut m p (j + 1) x c s

  module _ (x : ℕ) (before after : List Kept) (k : AreKept m p j x before) (t : AreChanged (IsTaken p j e.step e.effect.note) (length before) before after) where
    same-cmds : cmds_of after ≡ cmds_of before
    same-cmds = changed-numbers (IsTaken p j e.step e.effect.note) (λ (o : Kept). o.cmd) (λ o n r. r.cmd) before after t

    pub taken-each : Each (IsKept m p (j + 1) x) after
    taken-each = changed-each (IsTaken p j e.step e.effect.note) (IsKept m p j x) (IsKept m p (j + 1) x) (λ o n h r. taken-one x o n h r) before after t k.each

    pub taken-apart : AreApart (cmds_of after)
    taken-apart = subst AreApart (sym same-cmds) k.apart

    -- a command is kept or shut, or the step issued it
    pub taken-all : (c : ℕ) (s : Come) → Has (take (j + 1) (trace_in m)) p c s → IsOr x after c s ⊎ ((e.step ≡ Exec p) × (e.effect.note ≡ Issue c s.command))
    taken-all c s h = on (came (take j (trace_in m)) e p c s (before-step (λ T. Has T p c s) h))
      where
        stays : (r : Come) → Has (take j (trace_in m)) p c r → s ≡ r → IsIn c (cmds_of before) ⊎ IsShut m p j x c r → IsOr x after c s
        stays r has same (inl i) = inl (subst (IsIn c) (sym same-cmds) i)
        stays r has same (inr shut) = inr (subst (IsShut m p (j + 1) x c) (sym same) (shut-stays x c r has shut))

        moves : (r : Come) → r.done ≡ false → IsIn c (cmds_of before) ⊎ IsShut m p j x c r → IsOr x after c s
        moves r live (inl i) = inl (subst (IsIn c) (sym same-cmds) i)
        moves r live (inr shut) = absurd (both_ways _ live shut.complete)

        on : Came (take j (trace_in m)) e p c s → IsOr x after c s ⊎ ((e.step ≡ Exec p) × (e.effect.note ≡ Issue c s.command))
        on (Newly none own issue is) = inr (own, issue)
        on (Stays r has done same) = inl (stays r has same (k.all c r has))
        on (Moved r has live same st) = inl (moves r live (k.all c r has))

    -- where none is issued, these are all
    pub taken-kept : ((c : ℕ) (command : Command) → e.step ≡ Exec p → e.effect.note ≡ Issue c command → ⊥) → AreKept m p (j + 1) x after
    taken-kept none = record { each = taken-each; all = λ c s h. on c s (taken-all c s h); apart = taken-apart }
      where
        on : (c : ℕ) (s : Come) → IsOr x after c s ⊎ ((e.step ≡ Exec p) × (e.effect.note ≡ Issue c s.command)) → IsOr x after c s
        on c s (inl h) = h
        on c s (inr h) = absurd (none c s.command h.0 h.1)

    -- where one is, it stands behind the others
    module _ (c : ℕ) (command : Command) (own : e.step ≡ Exec p) (issue : e.effect.note ≡ Issue c command) (o : Kept) (is : IsNew c command o) where
      not-before : status p c (take j (trace_in m)) ≡ None
      not-before = ((queued j e here).issue p c command own issue).0.above c (omega arith)

      new-has : Has (take (j + 1) (trace_in m)) p c (begun command)
      new-has =
          after-step (λ T. Has T p c (begun command))
          (record { is = status_next p c (take j (trace_in m)) e ∙ ap (λ s. next_status p c s e) not-before ∙ ap₂ (λ step note. first_status p c step note) own issue ∙ issues })
        where
          issues : first_status p c (Exec p) (Issue c command) ≡ Some (begun command)
          issues = ap (λ b. if b then issued_as c (Issue c command) else None) (eq-eqb p p refl) ∙ ap (λ b. if b then Some (begun command) else None) (eq-eqb c c refl)

      -- it has made no step
      no-step : (i : ℕ) → i < j + 1 → IsStepOf (trace_in m) i p c → ⊥
      no-step i low of = on (last-or i low)
        where
          within : j ≤ length (trace_in m)
          within = let l : j < length (trace_in m) = slice_get_within (trace_in m) j e here in omega arith

          clash : (r : Come) → Has (take j (trace_in m)) p c r → ⊥
          clash r h = let a : status p c (take j (trace_in m)) ≡ Some r = h.is in let b = not-before in some-none (sym b ∙ a)
            where
              some-none : None ≡ Some r → ⊥
              some-none q = cc

          on : (i < j) ⊎ (i ≡ j) → ⊥
          on (inl less) =
              let may : MayStep (take i (trace_in m)) p c of.event.step of.event.effect.note = may_at (trace_in m) queued i p c of in
              let later = later_at (trace_in m) p c i j may.progress (omega arith) within may.has in
              clash later.progress later.has
          on (inr same) = absurd (exec-none e.step own (of-here c (subst (λ y. IsStepOf (trace_in m) y p c) same of)))
            where
              exec-none : (s : Step) → s ≡ Exec p → is_of p c s ≡ true → ⊥
              exec-none s eq h = let q : is_of p c (Exec p) ≡ true = ap (is_of p c) (sym eq) ∙ h in cc

      new-kept : IsKept m p (j + 1) x o
      new-kept = record {
        has = subst (λ d. Has (take (j + 1) (trace_in m)) p d o.progress) (sym is.cmd) (subst (Has (take (j + 1) (trace_in m)) p c) (sym is.progress) new-has);
        steps = λ i h. absurd (subst (IsIn i) is.steps h);
        left = λ i low of. absurd (no-step i low (subst (IsStepOf (trace_in m) i p) is.cmd of));
      }

      absent : IsIn o.cmd (cmds_of after) → ⊥
      absent i =
          let f = in-found (λ (o : Kept). o.cmd) (IsKept m p j x) before o.cmd k.each (subst (IsIn o.cmd) same-cmds i) in
          let a : status p c (take j (trace_in m)) ≡ Some f.entry.progress = (subst (λ d. Has (take j (trace_in m)) p d f.entry.progress) (f.is ∙ is.cmd) f.holds.has).is in
          let b = not-before in
          some-none f.entry.progress (sym b ∙ a)
        where
          some-none : (r : Come) → None ≡ Some r → ⊥
          some-none r q = cc

      pub added-kept : AreKept m p (j + 1) x (after ++ o ∷ [])
      added-kept = record {
        each = each-end (IsKept m p (j + 1) x) after o taken-each new-kept;
        all = λ d s h. on d s (taken-all d s h);
        apart = subst AreApart (sym cmds) (apart-end o.cmd (cmds_of after) taken-apart absent);
      }
        where
          cmds : cmds_of (after ++ o ∷ []) ≡ cmds_of after ++ o.cmd ∷ []
          cmds = map-append (λ (o : Kept). o.cmd) after (o ∷ [])

          one : (d : ℕ) (s : Come) → Issue c command ≡ Issue d s.command → c ≡ d
          one d s h = cc

          on : (d : ℕ) (s : Come) → IsOr x after d s ⊎ ((e.step ≡ Exec p) × (e.effect.note ≡ Issue d s.command)) → IsOr x (after ++ o ∷ []) d s
          on d s (inl (inl i)) = inl (subst (IsIn d) (sym cmds) (in-front d o.cmd (cmds_of after) i))
          on d s (inl (inr shut)) = inr shut
          on d s (inr h) =
              let same : o.cmd ≡ d = is.cmd ∙ one d s (sym issue ∙ h.1) in
              inl (subst (IsIn d) (sym cmds) (subst (λ y. IsIn d (cmds_of after ++ y ∷ [])) (sym same) (in-last d (cmds_of after))))

-- ---- a step that moves no command of the processor

abbrev pub IsIdle : ℕ → Step → Type 0
IsIdle p (Exec q) = q ≡ p → ⊥
IsIdle p (Piece q c e k) = q ≡ p → ⊥
IsIdle p (Elem q c) = q ≡ p → ⊥
IsIdle p (Retire q c) = q ≡ p → ⊥
IsIdle p (Atomic q) = Unit {0}
IsIdle p Host = Unit {0}

off : (q p : ℕ) → (q ≡ p → ⊥) → (q == p) ≡ false
off q p h = on (q == p) refl
  where
    on : (b : Bool) → (q == p) ≡ b → (q == p) ≡ false
    on true e = absurd (h (eqb-true q p e))
    on false e = e

idle-none : (p c : ℕ) (s : Come) (step : Step) (note : Note) → IsIdle p step → (is_of p c step ≡ false) × (stepped p c s step note ≡ s)
idle-none p c s (Exec q) note h = (refl, rw (off q p h) refl)
idle-none p c s (Piece q d x k) note h = (rw (off q p h) refl, rw (off q p h) refl)
idle-none p c s (Elem q d) note h = (rw (off q p h) refl, rw (off q p h) refl)
idle-none p c s (Retire q d) note h = (rw (off q p h) refl, rw (off q p h) refl)
idle-none p c s (Atomic q) note h = (refl, refl)
idle-none p c s Host note h = (refl, refl)

-- it leaves each command
pub idle-taken : (p j : ℕ) (step : Step) (note : Note) → IsIdle p step → (o : Kept) → IsTaken p j step note o o
idle-taken p j step note idle o =
    let r = idle-none p o.cmd o.progress step note idle in
    record {
      cmd = refl;
      progress = stays o.progress.done r.1;
      steps = sym (ap (λ b. if b then o.steps.items ++ j ∷ [] else o.steps.items) r.0);
    }
  where
    stays : (b : Bool) → stepped p o.cmd o.progress step note ≡ o.progress → o.progress ≡ (if b then o.progress else stepped p o.cmd o.progress step note)
    stays true h = refl
    stays false h = sym h
