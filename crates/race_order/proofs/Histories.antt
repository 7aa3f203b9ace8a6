-- The progress of a command along a run.
use Rattle.std.proofs.Common.{◌≡◌, ℕ, zero, suc, ◌+◌, ◌-◌, ◌<◌, ◌≤◌, ◌==◌, Bool, true, false, List, [], ◌∷◌, ◌++◌, length, take, Option, Some, None, ◌⊎◌, inl, inr, refl, sym, ap, ap₂, ◌∙◌, subst, arith}
use Rattle.std.specs.Prelude.{slice_get, if◌then◌else◌, ⊤}
use Rattle.std.specs.List.{fold}
use Rattle.std.proofs.lemmas.List.Sums.{fold-append}
use Rattle.std.proofs.lemmas.Bool.{cases_lt, eqb-true, eq-eqb, and_from, both_ways}
use Rattle.cell_base.specs.declared.steps.Step.{Step}
use Rattle.cell_base.specs.declared.steps.Step.TheVariants.{Exec, Elem}
use Rattle.mfc_command.specs.declared.command.Command.{Command}
use Rattle.cell_machine.specs.declared.effect.Note.{Note}
use Rattle.cell_machine.specs.declared.effect.Note.TheVariants.{Issue}
use Rattle.mfc_command.specs.Parts.{parts_of}
use Rattle.race_order.specs.Trace.{Event, Trace, Notes, IsStepOf, is_of}
use Rattle.race_order.specs.declared.progress.Progress.{Progress}
use Rattle.race_order.specs.Status.{status, next_status, first_status, issued_as, stepped, begun, is_transfer}
use Rattle.race_order.specs.Queue.{Has, ReadsElement}
use Rattle.race_order.proofs.Places.{get_there, take_step}
use Rattle.race_order.proofs.Statuses.{Grows, grows_itself, grows_trans, Valid, Steps, stepped_steps}

pub status_next : (p c : ℕ) (T : Trace) (e : Event) → status p c (T ++ (e ∷ [])) ≡ next_status p c (status p c T) e
status_next p c T e = fold-append (next_status p c) None T (e ∷ [])

pub same_progress : (T : Trace) (p c : ℕ) (s t : Progress) → Has T p c s → Has T p c t → s ≡ t
same_progress T p c s t h g = let a : status p c T ≡ Some s = h.is in let b : status p c T ≡ Some t = g.is in cc

-- how a command came to its progress by one more step
pub data Came (T : Trace) (e : Event) (p c : ℕ) (t : Progress) : Type 0 where
  Newly : status p c T ≡ None → e.step ≡ Exec p → e.effect.note ≡ Issue c t.command → t ≡ begun t.command → Came T e p c t
  Kept : (s : Progress) → Has T p c s → s.done ≡ true → t ≡ s → Came T e p c t
  Moved : (s : Progress) → Has T p c s → s.done ≡ false → t ≡ stepped p c s e.step e.effect.note → Steps p c s t e.step → Came T e p c t

issue_is : (c : ℕ) (note : Note) (t : Progress) → issued_as c note ≡ Some t → (note ≡ Issue c t.command) × (t ≡ begun t.command)
issue_is c (Issue d command) t e = at (d == c) refl e
  where
    at : (b : Bool) → (d == c) ≡ b → (if b then Some (begun command) else None) ≡ Some t → (Issue d command ≡ Issue c t.command) × (t ≡ begun t.command)
    at true q e = let r : begun command ≡ t = cc in let d' : d ≡ c = eqb-true d c q in let f : command ≡ t.command = ap (λ (x : Progress). x.command) r in (ap₂ Issue d' f, sym r ∙ ap begun f)
    at false q e = cc
issue_is c _ t e = cc

first_is : (p c : ℕ) (step : Step) (note : Note) (t : Progress) → first_status p c step note ≡ Some t → (step ≡ Exec p) × (note ≡ Issue c t.command) × (t ≡ begun t.command)
first_is p c (Exec q) note t e = at (q == p) refl e
  where
    at : (b : Bool) → (q == p) ≡ b → (if b then issued_as c note else None) ≡ Some t → (Exec q ≡ Exec p) × (note ≡ Issue c t.command) × (t ≡ begun t.command)
    at true r e = let h = issue_is c note t e in (ap Exec (eqb-true q p r), h.0, h.1)
    at false r e = cc
first_is p c _ note t e = cc

pub came : (T : Trace) (e : Event) (p c : ℕ) (t : Progress) → Has (T ++ (e ∷ [])) p c t → Came T e p c t
came T e p c t h = at (status p c T) refl
  where
    at : (o : Option Progress) → status p c T ≡ o → Came T e p c t
    at None q =
        let f : first_status p c e.step e.effect.note ≡ Some t = sym (status_next p c T e ∙ ap (λ o. next_status p c o e) q) ∙ h.is in
        let g = first_is p c e.step e.effect.note t f in
        Newly q g.0 g.1 g.2
    at (Some s) q = by s.done refl
      where
        f : Some (if s.done then s else stepped p c s e.step e.effect.note) ≡ Some t
        f = sym (status_next p c T e ∙ ap (λ o. next_status p c o e) q) ∙ h.is

        by : (b : Bool) → s.done ≡ b → Came T e p c t
        by true d =
            let x : Some s ≡ Some t = sym (ap (λ (v : Bool). Some (if v then s else stepped p c s e.step e.effect.note)) d) ∙ f in
            Kept s record { is = q } d (let y : s ≡ t = cc in sym y)
        by false d =
            let x : Some (stepped p c s e.step e.effect.note) ≡ Some t = sym (ap (λ (v : Bool). Some (if v then s else stepped p c s e.step e.effect.note)) d) ∙ f in
            let y : stepped p c s e.step e.effect.note ≡ t = cc in
            Moved s record { is = q } d (sym y) (subst (λ u. Steps p c s u e.step) y (stepped_steps p c s d e.step e.effect.note))

pub record Later (T : Trace) (p c : ℕ) (s : Progress) : Type 0 where
  pub progress : Progress
  pub has : Has T p c progress
  pub grows : Grows s progress
  pub frozen : s.done ≡ true → progress ≡ s

pub later_next : (T : Trace) (e : Event) (p c : ℕ) (s : Progress) → Has T p c s → Later (T ++ (e ∷ [])) p c s
later_next T e p c s h = by s.done refl
  where
    next : status p c (T ++ (e ∷ [])) ≡ Some (if s.done then s else stepped p c s e.step e.effect.note)
    next = status_next p c T e ∙ ap (λ o. next_status p c o e) h.is

    by : (b : Bool) → s.done ≡ b → Later (T ++ (e ∷ [])) p c s
    by true d = record { progress = s; has = record { is = next ∙ ap (λ (v : Bool). Some (if v then s else stepped p c s e.step e.effect.note)) d }; grows = grows_itself s; frozen = λ x. refl }
    by false d =
        record {
          progress = stepped p c s e.step e.effect.note;
          has = record { is = next ∙ ap (λ (v : Bool). Some (if v then s else stepped p c s e.step e.effect.note)) d };
          grows = (stepped_steps p c s d e.step e.effect.note).grows;
          frozen = λ x. absurd (both_ways _ d x);
        }

later_by : (T : Trace) (p c i : ℕ) (s : Progress) (d : ℕ) → i + d ≤ length T → Has (take i T) p c s → Later (take (i + d) T) p c s
later_by T p c i s zero low h = let e : i + 0 ≡ i = omega arith in subst (λ k. Later (take k T) p c s) (sym e) record { progress = s; has = h; grows = grows_itself s; frozen = λ x. refl }
later_by T p c i s (suc d) low h =
    let e : i + suc d ≡ suc (i + d) = omega arith in
    let l : Later (take (i + d) T) p c s = later_by T p c i s d (omega arith) h in
    let g : (x : Event) × (slice_get T (i + d) ≡ Some x) = get_there T (i + d) (omega arith) in
    let m : Later (take (i + d) T ++ (g.0 ∷ [])) p c l.progress = later_next (take (i + d) T) g.0 p c l.progress l.has in
    subst (λ k. Later (take k T) p c s) (sym e)
    (subst (λ u. Later u p c s) (sym (take_step T (i + d) g.0 g.1))
    record { progress = m.progress; has = m.has; grows = grows_trans s l.progress m.progress l.grows m.grows; frozen = λ x. let f : l.progress ≡ s = l.frozen x in m.frozen (subst (λ (v : Progress). v.done ≡ true) (sym f) x) ∙ f })

-- at a later place the command has come at least as far
pub later_at : (T : Trace) (p c i j : ℕ) (s : Progress) → i ≤ j → j ≤ length T → Has (take i T) p c s → Later (take j T) p c s
later_at T p c i j s low high h = let e : i + (j - i) ≡ j = omega arith in subst (λ k. Later (take k T) p c s) e (later_by T p c i s (j - i) (omega arith) h)

abbrev ValidOption : Option Progress → Type 0
ValidOption None = ⊤
ValidOption (Some s) = Valid s

valid_begun : (command : Command) → Valid (begun command)
valid_begun command =
    record { calm = λ d. refl; rest = λ x. absurd (never x); some = λ x y. absurd (none y x); listed = λ x. absurd (never x) }
  where
    never : false ≡ true → ⊥
    never x = cc

    none : is_transfer command ≡ false → 0 < (if is_transfer command then parts_of command.ea command.size else 0) → ⊥
    none y x = let z : (if is_transfer command then parts_of command.ea command.size else 0) ≡ 0 = ap (λ (b : Bool). if b then parts_of command.ea command.size else 0) y in absurd (omega arith)

valid_next : (p c : ℕ) (o : Option Progress) (e : Event) → ValidOption o → ValidOption (next_status p c o e)
valid_next p c None e v = at (first_status p c e.step e.effect.note) refl
  where
    at : (o : Option Progress) → first_status p c e.step e.effect.note ≡ o → ValidOption o
    at None q = tt
    at (Some t) q = let h = first_is p c e.step e.effect.note t q in subst Valid (sym h.2) (valid_begun t.command)
valid_next p c (Some s) e v = by s.done refl
  where
    by : (b : Bool) → s.done ≡ b → Valid (if s.done then s else stepped p c s e.step e.effect.note)
    by true d = subst Valid (sym (ap (λ (b : Bool). if b then s else stepped p c s e.step e.effect.note) d)) v
    by false d = subst Valid (sym (ap (λ (b : Bool). if b then s else stepped p c s e.step e.effect.note) d)) ((stepped_steps p c s d e.step e.effect.note).valid v)

valid_from : (p c : ℕ) (o : Option Progress) (xs : List Event) → ValidOption o → ValidOption (fold (next_status p c) o xs)
valid_from p c o [] v = v
valid_from p c o (x ∷ xs) v = valid_from p c (next_status p c o x) xs (valid_next p c o x v)

pub valid_at : (T : Trace) (p c : ℕ) (s : Progress) → Has T p c s → Valid s
valid_at T p c s h = subst ValidOption h.is (valid_from p c None T tt)

no_start : (T : Trace) (p c : ℕ) (s : Progress) → Has (take zero T) p c s → ⊥
no_start T p c s h = let e : status p c (take zero T) ≡ Some s = h.is in never e
  where
    never : None ≡ Some s → ⊥
    never x = cc

-- each element that was read was read by a step
pub read_there : (T : Trace) (p c : ℕ) (i : ℕ) (s : Progress) (m : ℕ) → i ≤ length T → Has (take i T) p c s → m < s.read → (k : ℕ) × (k < i) × ReadsElement T k p c m
read_there T p c zero s m low h less = absurd (no_start T p c s h)
read_there T p c (suc i) s m low h less =
    let g : (x : Event) × (slice_get T i ≡ Some x) = get_there T i (omega arith) in
    at g.0 g.1 (came (take i T) g.0 p c s (subst (λ u. Has u p c s) (take_step T i g.0 g.1) h)) (λ t x y. read_there T p c i t m (omega arith) x y)
  where
    later : (k : ℕ) × (k < i) × ReadsElement T k p c m → (k : ℕ) × (k < suc i) × ReadsElement T k p c m
    later r = (r.0, (let l : r.0 < i = r.1 in omega arith), r.2)

    at : (e : Event) → slice_get T i ≡ Some e → Came (take i T) e p c s → ((t : Progress) → Has (take i T) p c t → m < t.read → (k : ℕ) × (k < i) × ReadsElement T k p c m) → (k : ℕ) × (k < suc i) × ReadsElement T k p c m
    at e here (Newly n x y z) rest = let r : s.read ≡ 0 = ap (λ (v : Progress). v.read) z in absurd (omega arith)
    at e here (Kept t x d same) rest = later (rest t x (subst (λ (v : Progress). m < v.read) same less))
    at e here (Moved t x d f st) rest = by st.read
      where
        by : (s.read ≡ t.read) ⊎ ((e.step ≡ Elem p c) × (s.read ≡ t.read + 1)) → (k : ℕ) × (k < suc i) × ReadsElement T k p c m
        by (inl q) = later (rest t x (omega arith))
        by (inr q) = let r : s.read ≡ t.read + 1 = q.1 in new (cases_lt m t.read)
          where
            new : (m < t.read) ⊎ (t.read ≤ m) → (k : ℕ) × (k < suc i) × ReadsElement T k p c m
            new (inl low) = later (rest t x low)
            new (inr high) = let r : s.read ≡ t.read + 1 = q.1 in (i, omega arith, record { step = record { event = e; at = here; is = q.0 }; progress = t; has = x; number = omega arith })

-- a complete command has a step
pub stepped_there : (T : Trace) (p c : ℕ) (i : ℕ) (s : Progress) → i ≤ length T → Has (take i T) p c s → s.done ≡ true → (k : ℕ) × (k < i) × IsStepOf T k p c
stepped_there T p c zero s low h done = absurd (no_start T p c s h)
stepped_there T p c (suc i) s low h done =
    let g : (x : Event) × (slice_get T i ≡ Some x) = get_there T i (omega arith) in
    at g.0 g.1 (came (take i T) g.0 p c s (subst (λ u. Has u p c s) (take_step T i g.0 g.1) h)) (λ t x y. stepped_there T p c i t (omega arith) x y)
  where
    at : (e : Event) → slice_get T i ≡ Some e → Came (take i T) e p c s → ((t : Progress) → Has (take i T) p c t → t.done ≡ true → (k : ℕ) × (k < i) × IsStepOf T k p c) → (k : ℕ) × (k < suc i) × IsStepOf T k p c
    at e here (Newly n x y z) rest = let r : s.done ≡ false = ap (λ (v : Progress). v.done) z in absurd (both_ways _ r done)
    at e here (Kept t x d same) rest = let r = rest t x d in (r.0, (let l : r.0 < i = r.1 in omega arith), r.2)
    at e here (Moved t x d f st) rest = by (st.by done)
      where
        by : (is_of p c e.step ≡ true) ⊎ (t.stalled ≡ true) → (k : ℕ) × (k < suc i) × IsStepOf T k p c
        by (inl q) = (i, omega arith, record { event = e; at = here; is = q })
        by (inr q) =
            let v : 0 < t.read = (valid_at (take i T) p c t x).listed q in
            let r : (k : ℕ) × (k < i) × ReadsElement T k p c 0 = read_there T p c i t 0 (omega arith) x v in
            let l : r.0 < i = r.1 in
            (r.0, omega arith, record { event = r.2.step.event; at = r.2.step.at; is = ap (is_of p c) r.2.step.is ∙ and_from _ _ (eq-eqb p p refl) (eq-eqb c c refl) })

-- a command was issued by a step
pub issued_there : (T : Trace) (p c : ℕ) (i : ℕ) (s : Progress) → i ≤ length T → Has (take i T) p c s → (k : ℕ) × (k < i) × Notes T k (Exec p) (Issue c s.command) × (status p c (take k T) ≡ None)
issued_there T p c zero s low h = absurd (no_start T p c s h)
issued_there T p c (suc i) s low h =
    let g : (x : Event) × (slice_get T i ≡ Some x) = get_there T i (omega arith) in
    at g.0 g.1 (came (take i T) g.0 p c s (subst (λ u. Has u p c s) (take_step T i g.0 g.1) h)) (λ t x. issued_there T p c i t (omega arith) x)
  where
    Goal : Progress → ℕ → Type 0
    Goal t n = (k : ℕ) × (k < n) × Notes T k (Exec p) (Issue c t.command) × (status p c (take k T) ≡ None)

    at : (e : Event) → slice_get T i ≡ Some e → Came (take i T) e p c s
        → ((t : Progress) → Has (take i T) p c t → (k : ℕ) × (k < i) × Notes T k (Exec p) (Issue c t.command) × (status p c (take k T) ≡ None))
        → (k : ℕ) × (k < suc i) × Notes T k (Exec p) (Issue c s.command) × (status p c (take k T) ≡ None)
    at e here (Newly n x y z) rest = (i, omega arith, record { event = e; at = here; is = x; notes = y }, n)
    at e here (Kept t x d same) rest = let r = rest t x in (r.0, (let l : r.0 < i = r.1 in omega arith), subst (λ (v : Progress). Notes T r.0 (Exec p) (Issue c v.command)) (sym same) r.2, r.3)
    at e here (Moved t x d f st) rest = let r = rest t x in (r.0, (let l : r.0 < i = r.1 in omega arith), subst (λ v. Notes T r.0 (Exec p) (Issue c v)) (sym st.grows.command) r.2, r.3)
