-- The sets of the queue's roles that a step looks at have exactly the steps that it comes after.
use Rattle.std.proofs.Common.{◌≡◌, ℕ, suc, ◌+◌, ◌-◌, ◌<◌, ◌≤◌, ◌==◌, Bool, true, false, List, [], ◌∷◌, ◌++◌, length, take, Option, Some, None, ◌⊎◌, inl, inr, refl, sym, ap, ap₂, ◌∙◌, subst, subst₂, arith}
use Rattle.std.specs.Prelude.{slice_get, if◌then◌else◌, IsBitSet}
use Rattle.std.proofs.lemmas.Bool.{cases_lt, cases_eq, eqb-true, eq-eqb, and_parts, both_ways, false_from_ne_true}
use Rattle.std.proofs.lemmas.List.{take-take, length-take, length-take-le}
use Rattle.std.proofs.lemmas.Option.{slice_get_within}
use Rattle.cell_base.specs.declared.steps.Step.{Step}
use Rattle.cell_base.specs.declared.steps.Step.TheVariants.{Exec, Piece, Elem, Retire, Atomic, Host}
use Rattle.mfc_command.specs.declared.command.Command.{Command}
use Rattle.cell_machine.specs.declared.effect.Note.TheVariants.{Issue, TagRead, StallRead, Ack}
use Rattle.mfc_command.specs.Order.{precedes}
use Rattle.race_order.specs.Trace.{Event, Trace, IsStep, IsStepOf, is_of}
use Rattle.race_order.specs.declared.progress.Progress.{Progress}
use Rattle.race_order.specs.Status.{status, next_status, stepped, is_transfer, elements_done}
use Rattle.race_order.specs.Queue.{Has, Before, ReadsElement, IsStepOfElement, Resumes}
use Rattle.race_order.specs.Rules.{Program, Issued, Ordered, One}
use Rattle.race_order.specs.StatusRules.{Rule, Queued, Queue, ElementPiece, NextElement, StallSeen, Resumed, ResumedEarlier, TagSeen}
use Rattle.race_order.specs.declared.roles.Role.{Role}
use Rattle.race_order.specs.Stamps.{elem_of}
use Rattle.race_order.specs.Roles.{Source, Joins, read_roles}
use Rattle.race_order.specs.Orderly.{IsOrderly}
use Rattle.race_order.proofs.Places.{get_take, take_step, same_get}
use Rattle.race_order.proofs.Among.{Among, Found, among_every}
use Rattle.race_order.proofs.LookedAt.{step_here, step_there, notes_here, notes_there, notes_step, looks_sound, looks_full, IsIssued}
use Rattle.race_order.proofs.Holding.{ordered_trans}
use Rattle.race_order.proofs.Statuses.{done_le, done_all}
use Rattle.race_order.proofs.Histories.{status_next, same_progress, Later, later_at, later_next, read_there, issued_there, Came, Newly, Kept, Moved, came, valid_at}
use Rattle.race_order.proofs.Elements.{has_here, has_there, reads_here, may_at, step_of, elem_fits, after_read, element_here, element_chain, of_itself}
use Rattle.race_order.specs.Premises.{MayStep, IsQueued, IsStatus, IsFixed}
use Rattle.race_order.specs.declared.roles.QueueRole.{QueueRole}
use Rattle.race_order.specs.declared.roles.QueueRole.TheVariants.{Base, Waits, Complete, Fixed, Stalled}
use Rattle.race_order.specs.Sources.{QueueSource, WaitSource, Begun, Earlier, Acked, Read, Part, Whole, FixedSource, StalledSource, IsPartOf}
use Rattle.race_order.proofs.Sees.{LooksAt, SeesTag, SeesStall}

abbrev pub of_here : (T : Trace) (i b p c : ℕ) → i < b → IsStepOf T i p c → IsStepOf (take b T) i p c
of_here T i b p c low h = record { event = h.event; at = get_take T b i low ∙ h.at; is = h.is }

abbrev pub of_there : (T : Trace) (i b p c : ℕ) → i < b → IsStepOf (take b T) i p c → IsStepOf T i p c
of_there T i b p c low h = record { event = h.event; at = sym (get_take T b i low) ∙ h.at; is = h.is }

pub resumes_here : (T : Trace) (i b p c : ℕ) → i < b → Resumes T i p c → Resumes (take b T) i p c
resumes_here T i b p c low r = record { progress = r.progress; has = has_here T b i p c r.progress (omega arith) r.has; stalled = r.stalled; acknowledges = notes_here T i b (Exec p) (Ack r.progress.command.tag) low r.acknowledges }

pub resumes_there : (T : Trace) (i b p c : ℕ) → i < b → Resumes (take b T) i p c → Resumes T i p c
resumes_there T i b p c low r = record { progress = r.progress; has = has_there T b i p c r.progress (omega arith) r.has; stalled = r.stalled; acknowledges = notes_there T i b (Exec p) (Ack r.progress.command.tag) low r.acknowledges }

pub reads_there : (T : Trace) (b i p c m : ℕ) → i < b → ReadsElement (take b T) i p c m → ReadsElement T i p c m
reads_there T b i p c m low r = record { step = step_there T i b (Elem p c) low r.step; progress = r.progress; has = has_there T b i p c r.progress (omega arith) r.has; number = r.number }

pub element_there : (T : Trace) (b i p c m : ℕ) → i < b → IsStepOfElement (take b T) i p c m → IsStepOfElement T i p c m
element_there T b i p c m low (inl r) = inl (reads_there T b i p c m low r)
element_there T b i p c m low (inr q) = inr (q.0, step_there T i b (Piece p c m q.0) low q.1)

-- a place of the front of a list
pub front_low : {X : Type 0} (T : List X) (b i : ℕ) (x : X) → slice_get (take b T) i ≡ Some x → i < b
front_low T b i x e = let low : i < length (take b T) = slice_get_within (take b T) i x e in omega (arith, length-take b T)

among_found : {X : Type 0} (P : X → Type 0) (xs : List X) → Among P xs → Found (λ x. Among (λ w. w ≡ x) xs) P
among_found P [] h = absurd h
among_found P (x ∷ xs) (inl h) = record { one = x; first = inl refl; second = h }
among_found P (x ∷ xs) (inr h) = let f : Found (λ y. Among (λ w. w ≡ y) xs) P = among_found P xs h in record { one = f.one; first = inr f.first; second = f.second }

pub tag_low : (T : Trace) (queued : IsQueued T) (p c i : ℕ) (s : Progress) → i ≤ length T → Has (take i T) p c s → s.command.tag < 32
tag_low T queued p c i s low h = let k = issued_there T p c i s low h in ((queued k.0 k.2.event k.2.at).issue p c s.command k.2.is k.2.notes).1

module _ (T : Trace) (queued : IsQueued T) where
  -- no step of a complete command comes later
  pub no_step_after : (i m p c : ℕ) (s : Progress) → Has (take m T) p c s → s.done ≡ true → IsStepOf T i p c → i < m
  no_step_after i m p c s h done st = by (cases_lt i m)
    where
      by : (i < m) ⊎ (m ≤ i) → i < m
      by (inl low) = low
      by (inr high) =
          let w : i < length T = slice_get_within T i st.event st.at in
          let l : Later (take i T) p c s = later_at T p c m i s high (omega arith) h in
          let may : MayStep (take i T) p c st.event.step st.event.effect.note = may_at T queued i p c st in
          let same : l.progress ≡ may.progress = same_progress (take i T) p c l.progress may.progress l.has may.has in
          let d : may.progress.done ≡ true = ap (λ (v : Progress). v.done) (sym same ∙ l.frozen done) ∙ done in
          absurd (both_ways _ may.live d)

  -- nor is it resumed later
  pub no_resume_after : (i m p c : ℕ) (s : Progress) → Has (take m T) p c s → s.done ≡ true → Resumes T i p c → i < m
  no_resume_after i m p c s h done r = by (cases_lt i m)
    where
      by : (i < m) ⊎ (m ≤ i) → i < m
      by (inl low) = low
      by (inr high) =
          let w : i < length T = slice_get_within T i r.acknowledges.event r.acknowledges.at in
          let l : Later (take i T) p c s = later_at T p c m i s high (omega arith) h in
          let same : l.progress ≡ r.progress = same_progress (take i T) p c l.progress r.progress l.has r.has in
          let d : r.progress.done ≡ true = ap (λ (v : Progress). v.done) (sym same ∙ l.frozen done) ∙ done in
          absurd (both_ways _ ((valid_at (take i T) p c r.progress r.has).calm d) r.stalled)

  -- after its Retire step a command is complete
  pub after_retire : (i j p c : ℕ) (s : Progress) → IsStep T i (Retire p c) → i < j → j ≤ length T → Has (take j T) p c s → s.done ≡ true
  after_retire i j p c s h low high has =
      let st : IsStepOf T i p c = record { event = h.event; at = h.at; is = ap (is_of p c) h.is ∙ of_itself p c } in
      let may : MayStep (take i T) p c h.event.step h.event.effect.note = (queued i h.event h.at).step p c (ap (is_of p c) h.is ∙ of_itself p c) in
      let next : status p c (take (suc i) T) ≡ Some record may.progress { stalled = false; done = true } =
      ap (status p c) (take_step T i h.event h.at)
      ∙ (status_next p c (take i T) h.event
      ∙ (ap (λ o. next_status p c o h.event) may.has.is
      ∙ (ap (λ (b : Bool). Some (if b then may.progress else stepped p c may.progress h.event.step h.event.effect.note)) may.live
      ∙ (ap (λ x. Some (stepped p c may.progress x h.event.effect.note)) h.is
      ∙ ap (λ (b : Bool). Some (if b then record may.progress { stalled = false; done = true } else may.progress)) (of_itself p c))))) in
      let l : Later (take j T) p c record may.progress { stalled = false; done = true } = later_at T p c (suc i) j record may.progress { stalled = false; done = true } (omega arith) high record { is = next } in
      ap (λ (v : Progress). v.done) (same_progress (take j T) p c s l.progress has l.has ∙ l.frozen refl)

  module _ (n : ℕ) (orderly : IsOrderly n T) (j : ℕ) (e : Event) (here : slice_get T j ≡ Some e) where
    inside : j < length T
    inside = slice_get_within T j e here

    now : slice_get (take (j + 1) T) j ≡ Some e
    now = get_take T (j + 1) j (omega arith) ∙ here

    plus : suc j ≡ j + 1
    plus = omega arith

    after_step : take (j + 1) T ≡ take j T ++ (e ∷ [])
    after_step = subst (λ k. take k T ≡ take j T ++ (e ∷ [])) plus (take_step T j e here)

    edge_by : (i : ℕ) → i < j → Queued (take (j + 1) T) i j → Ordered Rule T i j
    edge_by i low q = One record { below = low; rule = inr q }

    this : (p d : ℕ) → is_of p d e.step ≡ true → IsStepOf (take (j + 1) T) j p d
    this p d of = record { event = e; at = now; is = of }

    has_next : (p c : ℕ) (s : Progress) → Has (take j T) p c s → (t : Progress) × Has (take (j + 1) T) p c t × (t.command ≡ s.command)
    has_next p c s h =
        let l : Later (take j T ++ (e ∷ [])) p c s = later_next (take j T) e p c s h in
        (l.progress, subst (λ u. Has u p c l.progress) (sym after_step) l.has, l.grows.command)

    before_next : (p c d : ℕ) → Before (take j T) p c d → Before (take (j + 1) T) p c d
    before_next p c d b =
        let f = has_next p c b.first b.first_is in
        let g = has_next p d b.second b.second_is in
        record { lower = b.lower; first = f.0; second = g.0; first_is = f.1; second_is = g.1; goes = subst₂ (λ (x y : Command). precedes x y ≡ true) (sym f.2) (sym g.2) b.goes }

    -- a step of a command issues none
    has_back : (p d q c : ℕ) (t : Progress) → is_of p d e.step ≡ true → Has (take (j + 1) T) q c t → (s : Progress) × Has (take j T) q c s × (s.command ≡ t.command)
    has_back p d q c t of h = by (came (take j T) e q c t (subst (λ u. Has u q c t) after_step h))
      where
        by : Came (take j T) e q c t → (s : Progress) × Has (take j T) q c s × (s.command ≡ t.command)
        by (Newly x y z w) = let f : false ≡ true = sym (ap (is_of p d) y) ∙ of in absurd cc
        by (Kept s x y z) = (s, x, ap (λ (v : Progress). v.command) (sym z))
        by (Moved s x y z w) = (s, x, sym w.grows.command)

    before_back : (p c d : ℕ) → is_of p d e.step ≡ true → Before (take (j + 1) T) p c d → Before (take j T) p c d
    before_back p c d of b =
        let f = has_back p d p c b.first of b.first_is in
        let g = has_back p d p d b.second of b.second_is in
        record { lower = b.lower; first = f.0; second = g.0; first_is = f.1; second_is = g.1; goes = subst₂ (λ (x y : Command). precedes x y ≡ true) (sym f.2) (sym g.2) b.goes }

    may : (p d : ℕ) → is_of p d e.step ≡ true → MayStep (take j T) p d e.step e.effect.note
    may p d of = (queued j e here).step p d of

    -- what is asked of the step at j where a step of the element m stands before it
    record IsFar (p d i m : ℕ) (u : Progress) : Type 0 where
      none : u.left ≡ 0 → m + 1 ≤ u.read
      some : 0 < u.left → (m + 2 ≤ u.read) ⊎ ((m + 1 ≡ u.read) × ReadsElement T i p d m)
      listed : 0 < u.left → is_transfer u.command ≡ false

    -- a step of an element at i before a step of its list at j
    element_before : (p d i : ℕ) (s : Step) → e.step ≡ s → is_of p d s ≡ true → i < j → (m : ℕ) → IsStepOfElement T i p d m → ((r : MayStep (take j T) p d s e.effect.note) → IsFar p d i m r.progress) → Ordered Rule T i j
    element_before p d i (Exec q) q' of low m st far = absurd cc
    element_before p d i (Atomic q) q' of low m st far = absurd cc
    element_before p d i Host q' of low m st far = absurd cc
    element_before p d i (Retire q x) q' of low m st far =
        let r : MayStep (take j T) p d (Retire q x) e.effect.note = subst (λ s. MayStep (take j T) p d s e.effect.note) q' (may p d (ap (is_of p d) q' ∙ of)) in
        let l : r.progress.left ≡ 0 = r.fits.0 in
        let z : r.progress.read ≡ 0 = r.fits.1 in
        let f : m + 1 ≤ r.progress.read = (far r).none l in
        absurd (omega arith)
    element_before p d i (Elem q x) q' of low m st far =
        let a = and_parts _ _ of in
        let r : MayStep (take j T) p d (Elem q x) e.effect.note = subst (λ s. MayStep (take j T) p d s e.effect.note) q' (may p d (ap (is_of p d) q' ∙ of)) in
        let l : r.progress.left ≡ 0 = r.fits.1 in
        let f : m + 1 ≤ r.progress.read = (far r).none l in
        let s : IsStep T j (Elem p d) = record { event = e; at = here; is = q' ∙ ap₂ Elem (eqb-true q p a.0) (eqb-true x d a.1) } in
        element_chain T queued (r.progress.read - (m + 1)) p d m i r.progress.read j (omega arith) st record { step = s; progress = r.progress; has = r.has; number = refl }
    element_before p d i (Piece q x y k) q' of low m st far =
        let a = and_parts _ _ of in
        let r : MayStep (take j T) p d (Piece q x y k) e.effect.note = subst (λ s. MayStep (take j T) p d s e.effect.note) q' (may p d (ap (is_of p d) q' ∙ of)) in
        let l : 0 < r.progress.left = r.fits.0 in
        let s : IsStep T j (Piece p d y k) = record { event = e; at = here; is = q' ∙ ap₂ (λ v w. Piece v w y k) (eqb-true q p a.0) (eqb-true x d a.1) } in
        last r s (which r.progress r.fits.1 ((far r).listed l)) ((far r).some l)
      where
        which : (u : Progress) → ((is_transfer u.command ≡ true) × (y ≡ 0)) ⊎ ((is_transfer u.command ≡ false) × (y + 1 ≡ u.read)) → is_transfer u.command ≡ false → y + 1 ≡ u.read
        which u (inl t) g = absurd (both_ways _ g t.0)
        which u (inr t) g = t.1

        piece_edge : (z : ℕ) → z < j → ReadsElement T z p d y → IsStep T j (Piece p d y k) → Ordered Rule T z j
        piece_edge z lz h s = edge_by z lz (ElementPiece p d y k (reads_here T (j + 1) z p d y (omega arith) h) (step_here T j (j + 1) (Piece p d y k) (omega arith) s))

        last : (r : MayStep (take j T) p d (Piece q x y k) e.effect.note) → IsStep T j (Piece p d y k) → y + 1 ≡ r.progress.read → (m + 2 ≤ r.progress.read) ⊎ ((m + 1 ≡ r.progress.read) × ReadsElement T i p d m) → Ordered Rule T i j
        last r s w (inl f) =
            let inn : j < length T = inside in
            let h : (z : ℕ) × (z < j) × ReadsElement T z p d y = read_there T p d j r.progress y (omega arith) r.has (omega arith) in
            ordered_trans Rule T i h.0 j (element_chain T queued (y - (m + 1)) p d m i y h.0 (omega arith) st h.2) (piece_edge h.0 h.1 h.2 s)
        last r s w (inr f) = let g : m + 1 ≡ r.progress.read = f.0 in let q : m ≡ y = omega arith in piece_edge i low (subst (ReadsElement T i p d) q f.1) s

    -- the progress where an element was read before
    far_read : (p d i m : ℕ) (u : Progress) → i < j → ReadsElement T i p d m → Has (take j T) p d u → IsFar p d i m u
    far_read p d i m u low r h =
        let inn : j < length T = inside in
        let f = after_read T queued i p d m j u r low (omega arith) h in
        let g : m + 1 ≤ u.read = f.0 in
        record { none = λ l. g; some = λ l. by (cases_eq (m + 1) u.read) g; listed = λ l. ap is_transfer (f.1 r.progress r.has) ∙ (elem_fits T queued i p d m r).0 }
      where
        by : (m + 1 ≡ u.read) ⊎ (m + 1 ≡ u.read → ⊥) → m + 1 ≤ u.read → (m + 2 ≤ u.read) ⊎ ((m + 1 ≡ u.read) × ReadsElement T i p d m)
        by (inl q) g = inr (q, r)
        by (inr q) g = inl (omega arith)

    -- the progress where pieces of an element were made that is wholly done
    far_done : (p d i m k : ℕ) (u : Progress) → i < j → IsStep T i (Piece p d m k) → Has (take j T) p d u → m < elements_done u → IsFar p d i m u
    far_done p d i m k u low st h less =
        let inn : j < length T = inside in
        let le : elements_done u ≤ u.read = done_le u in
        let z : (x : ℕ) × (x < j) × ReadsElement T x p d 0 = read_there T p d j u 0 (omega arith) h (omega arith) in
        let f = after_read T queued z.0 p d 0 j u z.2 z.1 (omega arith) h in
        record {
          none = λ l. omega arith;
          some = λ l. inl (let q : elements_done u ≡ u.read - 1 = not_all u l in omega arith);
          listed = λ l. ap is_transfer (f.1 z.2.progress z.2.has) ∙ (elem_fits T queued z.0 p d 0 z.2).0;
        }
      where
        not_all : (v : Progress) → 0 < v.left → elements_done v ≡ v.read - 1
        not_all v l = at (cases_eq v.left 0)
          where
            at : (v.left ≡ 0) ⊎ (v.left ≡ 0 → ⊥) → elements_done v ≡ v.read - 1
            at (inl q) = absurd (omega arith)
            at (inr q) = ap (λ (b : Bool). if b then v.read else v.read - 1) (false_from_ne_true _ (λ t. q (eqb-true v.left 0 t)))

    -- what the sets hold comes before
    pub wait_sound : (p d : ℕ) → is_of p d e.step ≡ true → (i : ℕ) → WaitSource (take j T) p d i → Ordered Rule T i j
    wait_sound p d of i (Begun command h) =
        let low : i < j = front_low T j i h.event h.at in
        One record { below = low; rule = inl (Issued p d command (notes_here T i (j + 1) (Exec p) (Issue d command) (omega arith) (notes_there T i j (Exec p) (Issue d command) low h)) (this p d of)) }
    wait_sound p d of i (Earlier c b done (inl st)) =
        let low : i < j = front_low T j i st.event st.at in
        edge_by i low (Queue p c d (of_here T i (j + 1) p c (omega arith) (of_there T i j p c low st)) (this p d of) (before_next p c d b))
    wait_sound p d of i (Earlier c b done (inr r)) =
        let low : i < j = front_low T j i r.acknowledges.event r.acknowledges.at in
        edge_by i low (ResumedEarlier p c d (resumes_here T i (j + 1) p c (omega arith) (resumes_there T i j p c low r)) (this p d of) (before_next p c d b))
    wait_sound p d of i (Acked r) =
        let low : i < j = front_low T j i r.acknowledges.event r.acknowledges.at in
        edge_by i low (Resumed p d (resumes_here T i (j + 1) p d (omega arith) (resumes_there T i j p d low r)) (this p d of))
    wait_sound p d of i (Read h) =
        let low : i < j = front_low T j i h.event h.at in
        read_sound (step_there T i j (Elem p d) low h) low
      where
        read_sound : IsStep T i (Elem p d) → i < j → Ordered Rule T i j
        read_sound g low =
            let m : MayStep (take i T) p d g.event.step g.event.effect.note = may_at T queued i p d (step_of T queued i p d g) in
            let r : ReadsElement T i p d m.progress.read = record { step = g; progress = m.progress; has = m.has; number = refl } in
            element_before p d i e.step refl of low m.progress.read (inl r) (λ x. far_read p d i m.progress.read x.progress low r x.has)
    wait_sound p d of i (Part s has b) =
        let low : i < j = front_low T j i b.step.event b.step.at in
        by b.step.event.step refl low
      where
        at_i : i < j → (x : Step) → b.step.event.step ≡ x → IsStep T i x
        at_i low x q = record { event = b.step.event; at = sym (get_take T j i low) ∙ b.step.at; is = q }

        by : (x : Step) → b.step.event.step ≡ x → i < j → Ordered Rule T i j
        by (Exec q) f low = let g : false ≡ true = sym (ap (is_of p d) f) ∙ b.step.is in absurd cc
        by (Atomic q) f low = let g : false ≡ true = sym (ap (is_of p d) f) ∙ b.step.is in absurd cc
        by Host f low = let g : false ≡ true = sym (ap (is_of p d) f) ∙ b.step.is in absurd cc
        by (Retire q x) f low =
            let a = and_parts (q == p) (x == d) (sym (ap (is_of p d) f) ∙ b.step.is) in
            let inn : j < length T = inside in
            let g : IsStep T i (Retire p d) = at_i low (Retire p d) (f ∙ ap₂ Retire (eqb-true q p a.0) (eqb-true x d a.1)) in
            let m : MayStep (take j T) p d e.step e.effect.note = may p d of in
            absurd (both_ways _ m.live (after_retire i j p d m.progress g low (omega arith) m.has))
        by (Elem q x) f low =
            let a = and_parts (q == p) (x == d) (sym (ap (is_of p d) f) ∙ b.step.is) in
            let g : IsStep T i (Elem p d) = at_i low (Elem p d) (f ∙ ap₂ Elem (eqb-true q p a.0) (eqb-true x d a.1)) in
            let m : MayStep (take i T) p d g.event.step g.event.effect.note = may_at T queued i p d (step_of T queued i p d g) in
            let r : ReadsElement T i p d m.progress.read = record { step = g; progress = m.progress; has = m.has; number = refl } in
            element_before p d i e.step refl of low m.progress.read (inl r) (λ y. far_read p d i m.progress.read y.progress low r y.has)
        by (Piece q x m k) f low =
            let a = and_parts (q == p) (x == d) (sym (ap (is_of p d) f) ∙ b.step.is) in
            let g : IsStep T i (Piece p d m k) = at_i low (Piece p d m k) (f ∙ ap₂ (λ v w. Piece v w m k) (eqb-true q p a.0) (eqb-true x d a.1)) in
            let less : m < elements_done s = subst (λ y. elem_of y b.step.event.effect.note < elements_done s) f b.low in
            element_before p d i e.step refl of low m (inr (k, g)) (λ y. far_done p d i m k y.progress low g y.has (subst (λ v. m < elements_done v) (same_progress (take j T) p d s y.progress has y.has) less))
    wait_sound p d of i (Whole s c st) =
        let m : MayStep (take j T) p d e.step e.effect.note = may p d of in
        let same : s ≡ m.progress = same_progress (take j T) p d s m.progress c.has m.has in
        absurd (both_ways _ m.live (ap (λ (v : Progress). v.done) (sym same) ∙ c.done))

    this_exec : (p : ℕ) → e.step ≡ Exec p → IsStep (take (j + 1) T) j (Exec p)
    this_exec p q = record { event = e; at = now; is = q }

    fixed_there : (p f b : ℕ) → f < b → IsFixed (take b T) f p → IsFixed T f p
    fixed_there p f b low h = record { event = h.event; at = sym (get_take T b f low) ∙ h.at; is = h.is; fixed = h.fixed }

    fixed_sound : (p g : ℕ) → SeesTag e p g → (i : ℕ) → FixedSource (take j T) p g i → Ordered Rule T i j
    fixed_sound p g sees i h = part h.source.part
      where
        st : IsStatus (take j T) p sees.groups sees.issued
        st = (queued j e here).tags p sees.groups sees.issued sees.is sees.notes

        f : ℕ
        f = h.place

        f_low : f < j
        f_low = front_low T j f h.fixed.event h.fixed.at

        place_low : st.place < j
        place_low = front_low T j st.place st.fixed.event st.fixed.at

        last : f ≤ st.place
        last = by (cases_lt st.place f)
          where
            by : (st.place < f) ⊎ (f ≤ st.place) → f ≤ st.place
            by (inl up) = absurd (st.last f up h.fixed)
            by (inr le) = le

        c : ℕ
        c = h.source.command

        s : Progress
        s = h.source.progress

        known : Has (take (f + 1) T) p c s
        known = let l : f < j = f_low in has_there T j (f + 1) p c s (omega arith) h.source.complete.has

        then_ : Later (take (st.place + 1) T) p c s
        then_ = let l : f ≤ st.place = last in let m : st.place < j = place_low in let k : j < length T = inside in later_at T p c (f + 1) (st.place + 1) s (omega arith) (omega arith) known

        low : c < sees.issued
        low = by (cases_lt c sees.issued)
          where
            by : (c < sees.issued) ⊎ (sees.issued ≤ c) → c < sees.issued
            by (inl l) = l
            by (inr le) =
                let m : st.place < j = place_low in
                let a : status p c (take (st.place + 1) (take j T)) ≡ None = st.number.above c le in
                let b : status p c (take (st.place + 1) T) ≡ Some then_.progress = then_.has.is in
                let d : status p c (take (st.place + 1) (take j T)) ≡ Some then_.progress = ap (status p c) (take-take (st.place + 1) j T (omega arith)) ∙ b in
                absurd (clash (status p c (take (st.place + 1) (take j T))) then_.progress a d)
              where
                clash : (o : Option Progress) (t : Progress) → o ≡ None → o ≡ Some t → ⊥
                clash o t x y = cc

        at_end : Later (take (j + 1) T) p c s
        at_end = let l : f < j = f_low in let k : j < length T = inside in later_at T p c (f + 1) (j + 1) s (omega arith) (omega arith) known

        tag : s.command.tag ≡ g
        tag = eqb-true s.command.tag g h.source.of

        part : IsPartOf (take (f + 1) (take j T)) i p c → Ordered Rule T i j
        part (inl x) =
            let l : f < j = f_low in
            let y : IsStepOf (take (f + 1) T) i p c = subst (λ u. IsStepOf u i p c) (take-take (f + 1) j T (omega arith)) x in
            let i_low : i < f + 1 = front_low T (f + 1) i y.event y.at in
            edge_by i (omega arith)
            (TagSeen p c sees.groups sees.issued at_end.progress (of_here T i (j + 1) p c (omega arith) (of_there T i (f + 1) p c i_low y)) at_end.has record { event = e; at = now; is = sees.is; notes = sees.notes }
            (subst (IsBitSet sees.groups) (sym (ap (λ (v : Command). v.tag) at_end.grows.command ∙ tag)) sees.bit) low)
        part (inr x) =
            let l : f < j = f_low in
            let y : Resumes (take (f + 1) T) i p c = subst (λ u. Resumes u i p c) (take-take (f + 1) j T (omega arith)) x in
            let i_low : i < f + 1 = front_low T (f + 1) i y.acknowledges.event y.acknowledges.at in
            let z : Resumes T i p c = resumes_there T i (f + 1) p c i_low y in
            One record {
              below = let w : i < j = omega arith in w;
              rule = inl (Program p (step_here T i (j + 1) (Exec p) (omega arith) (notes_step T i (Exec p) (Ack z.progress.command.tag) z.acknowledges)) (this_exec p sees.is));
            }

    stalled_sound : (p g : ℕ) → SeesStall e p g → (i : ℕ) → StalledSource (take j T) p g i → Ordered Rule T i j
    stalled_sound p g sees i h =
        let inn : j < length T = inside in
        let m_low : h.after ≤ length (take j T) = h.within in
        let m_le : h.after ≤ j = omega (arith, length-take-le j T) in
        let low : i < j = at_low h.step in
        edge_by i low
        (StallSeen p h.command h.element h.after sees.groups (element_here T queued p h.command h.element i (j + 1) (omega arith) (element_there T j i p h.command h.element low h.step)) m_le
        record {
          progress = h.stall.progress;
          has = has_here T (j + 1) h.after p h.command h.stall.progress (omega arith) (has_there T j h.after p h.command h.stall.progress m_le h.stall.has);
          stalled = h.stall.stalled;
          number = h.stall.number;
        }
        record { event = e; at = now; is = sees.is; notes = sees.notes } (subst (IsBitSet sees.groups) (sym h.tag) sees.bit))
      where
        at_low : IsStepOfElement (take j T) i p h.command h.element → i < j
        at_low (inl r) = front_low T j i r.step.event r.step.at
        at_low (inr q) = front_low T j i q.1.event q.1.at

    -- what the sets hold that the step looks at comes before it
    pub queue_sound : (r : QueueRole) → LooksAt (take j T) e r → (i : ℕ) → QueueSource (take j T) r i → Ordered Rule T i j
    queue_sound (Base r) looks i h =
        let f : Found (λ w. w ≡ r) (λ w. (k : ℕ) → k < j → Source T w k → Ordered Rule T k j) = among_every (λ w. w ≡ r) _ (read_roles (take j T) e) looks (looks_sound Rule (λ t k l x. inl x) n T orderly j e here) in
        let low : i < j = front_low T j i h.event h.at in
        subst (λ w. (k : ℕ) → k < j → Source T w k → Ordered Rule T k j) f.first f.second i low
        record { event = h.event; at = sym (get_take T j i low) ∙ h.at; joins = subst (λ t. Joins t h.event r) (take-take i j T (omega arith)) h.joins }
    queue_sound (Waits p d) looks i h = wait_sound p d looks i h
    queue_sound (Complete p class) looks i h = absurd looks
    queue_sound (Fixed p g) looks i h = fixed_sound p g looks i h
    queue_sound (Stalled p g) looks i h = stalled_sound p g looks i h

    source_front : (r : Role) (i : ℕ) → i < j → Source T r i → Source (take j T) r i
    source_front r i low h = record { event = h.event; at = get_take T j i low ∙ h.at; joins = subst (λ t. Joins t h.event r) (sym (take-take i j T (omega arith))) h.joins }

    front_of : (i p c : ℕ) → i < j → IsStepOf (take (j + 1) T) i p c → IsStepOf (take j T) i p c
    front_of i p c low h = of_here T i j p c low (of_there T i (j + 1) p c (omega arith) h)

    front_resumes : (i p c : ℕ) → i < j → Resumes (take (j + 1) T) i p c → Resumes (take j T) i p c
    front_resumes i p c low h = resumes_here T i j p c low (resumes_there T i (j + 1) p c (omega arith) h)

    front_element : (i p c m : ℕ) → i < j → IsStepOfElement (take (j + 1) T) i p c m → IsStepOfElement (take j T) i p c m
    front_element i p c m low h = element_here T queued p c m i j low (element_there T (j + 1) i p c m (omega arith) h)

    same_event : (f : Event) → slice_get (take (j + 1) T) j ≡ Some f → f ≡ e
    same_event f at = same_get (slice_get (take (j + 1) T) j) f e at now

    this_is : (p c : ℕ) → IsStepOf (take (j + 1) T) j p c → is_of p c e.step ≡ true
    this_is p c h = subst (λ f. is_of p c f.step ≡ true) (same_event h.event h.at) h.is

    Sources : ℕ → Type 0
    Sources i = Found (LooksAt (take j T) e) (λ r. QueueSource (take j T) r i)

    earlier_done : (p c d : ℕ) (of : is_of p d e.step ≡ true) (b : Before (take j T) p c d) → b.first.done ≡ true
    earlier_done p c d of b =
        let m : MayStep (take j T) p d e.step e.effect.note = may p d of in
        m.first c b.first b.lower b.first_is (subst (λ (v : Progress). precedes b.first.command v.command ≡ true) (same_progress (take j T) p d b.second m.progress b.second_is m.has) b.goes)

    -- what comes directly before is in one of the sets that the step looks at
    pub queue_full : (i : ℕ) → i < j → Rule (take (j + 1) T) i j → Found (LooksAt (take j T) e) (λ r. QueueSource (take j T) r i)
    queue_full i low (inl x) = plain_full (looks_full Rule (λ t k l y. inl y) n T orderly j e here i low x)
      where
        plain_full : Among (λ r. Source T r i) (read_roles (take j T) e) ⊎ IsIssued T i j → Found (LooksAt (take j T) e) (λ r. QueueSource (take j T) r i)
        plain_full (inl y) =
            let f : Found (λ r. Among (λ w. w ≡ r) (read_roles (take j T) e)) (λ r. Source T r i) = among_found _ (read_roles (take j T) e) y in
            record { one = Base f.one; first = f.first; second = source_front f.one i low f.second }
        plain_full (inr y) =
            let same : y.step.event ≡ e = same_get (slice_get T j) y.step.event e y.step.at here in
            record { one = Waits y.spe y.command; first = subst (λ f. is_of y.spe y.command f.step ≡ true) same y.step.is; second = Begun y.issue.0 (notes_here T i j (Exec y.spe) (Issue y.command y.issue.0) low y.issue.1) }
    queue_full i low (inr (Queue p c d a b before)) =
        let of : is_of p d e.step ≡ true = this_is p d b in
        let bb : Before (take j T) p c d = before_back p c d of before in
        record { one = Waits p d; first = of; second = Earlier c bb (earlier_done p c d of bb) (inl (front_of i p c low a)) }
    queue_full i low (inr (ElementPiece p c m part r h)) =
        record {
          one = Waits p c;
          first = subst (λ f. is_of p c f.step ≡ true) (same_event h.event h.at) (ap (is_of p c) h.is ∙ of_itself p c);
          second = Read (step_here T i j (Elem p c) low (step_there T i (j + 1) (Elem p c) (omega arith) r.step));
        }
    queue_full i low (inr (NextElement p c m s r)) =
        record {
          one = Waits p c;
          first = subst (λ f. is_of p c f.step ≡ true) (same_event r.step.event r.step.at) (ap (is_of p c) r.step.is ∙ of_itself p c);
          second = by (front_element i p c m low s);
        }
      where
        r' : ReadsElement T j p c (m + 1)
        r' = reads_there T (j + 1) j p c (m + 1) (omega arith) r

        by : IsStepOfElement (take j T) i p c m → WaitSource (take j T) p c i
        by (inl x) = Read x.step
        by (inr x) =
            let l : r'.progress.left ≡ 0 = (elem_fits T queued j p c (m + 1) r').1 in
            let a : elements_done r'.progress ≡ r'.progress.read = done_all r'.progress l in
            let b : r'.progress.read ≡ m + 1 = r'.number in
            Part r'.progress r'.has
            record {
              step = record { event = x.1.event; at = x.1.at; is = ap (is_of p c) x.1.is ∙ of_itself p c };
              low = subst (λ y. elem_of y x.1.event.effect.note < elements_done r'.progress) (sym x.1.is) (let z : m < elements_done r'.progress = omega arith in z);
            }
    queue_full i low (inr (StallSeen p c m k groups s le stall notes bit)) =
        let q : notes.event ≡ e = same_event notes.event notes.at in
        let inn : j < length T = inside in
        record {
          one = Stalled p stall.progress.command.tag;
          first = record { groups = groups; is = subst (λ f. f.step ≡ Exec p) q notes.is; notes = subst (λ f. f.effect.note ≡ StallRead groups) q notes.notes; bit = bit; low = tag_low T queued p c k stall.progress (let inn : j < length T = inside in omega arith) (has_there T (j + 1) k p c stall.progress (omega arith) stall.has) };
          second =
              record {
                command = c;
                element = m;
                after = k;
                within = let w : length (take j T) ≡ j = length-take-le j T (omega arith) in omega arith;
                stall = record { progress = stall.progress; has = has_here T j k p c stall.progress le (has_there T (j + 1) k p c stall.progress (omega arith) stall.has); stalled = stall.stalled; number = stall.number };
                tag = refl;
                step = front_element i p c m low s;
              };
        }
    queue_full i low (inr (Resumed p c r s)) = record { one = Waits p c; first = this_is p c s; second = Acked (front_resumes i p c low r) }
    queue_full i low (inr (ResumedEarlier p c d r s before)) =
        let of : is_of p d e.step ≡ true = this_is p d s in
        let bb : Before (take j T) p c d = before_back p c d of before in
        record { one = Waits p d; first = of; second = Earlier c bb (earlier_done p c d of bb) (inr (front_resumes i p c low r)) }
    queue_full i low (inr (TagSeen p c groups issued s st has notes bit less)) =
        record {
          one = Fixed p s.command.tag;
          first = record { groups = groups; issued = issued; is = is; notes = note; bit = bit; low = tag_low T queued p c (j + 1) s (let inn : j < length T = inside in omega arith) has };
          second = record { place = status_is.place; fixed = status_is.fixed; source = record { command = c; progress = at_fix.0; complete = record { has = at_fix.1; done = done }; of = eq-eqb at_fix.0.command.tag s.command.tag tag; part = inl (of_here (take j T) i (status_is.place + 1) p c i_low (front_of i p c low st)) } };
        }
      where
        q : notes.event ≡ e
        q = same_event notes.event notes.at

        is : e.step ≡ Exec p
        is = subst (λ f. f.step ≡ Exec p) q notes.is

        note : e.effect.note ≡ TagRead groups issued
        note = subst (λ f. f.effect.note ≡ TagRead groups issued) q notes.notes

        status_is : IsStatus (take j T) p groups issued
        status_is = (queued j e here).tags p groups issued is note

        at_fix : (t : Progress) × Has (take (status_is.place + 1) (take j T)) p c t
        at_fix = status_is.number.below c less

        place_low : status_is.place < j
        place_low = front_low T j status_is.place status_is.fixed.event status_is.fixed.at

        fix_there : Has (take (status_is.place + 1) T) p c at_fix.0
        fix_there = let l : status_is.place < j = place_low in has_there T j (status_is.place + 1) p c at_fix.0 (omega arith) at_fix.1

        later : Later (take (j + 1) T) p c at_fix.0
        later = let l : status_is.place < j = place_low in let inn : j < length T = inside in later_at T p c (status_is.place + 1) (j + 1) at_fix.0 (omega arith) (omega arith) fix_there

        tag : at_fix.0.command.tag ≡ s.command.tag
        tag = sym (ap (λ (v : Progress). v.command.tag) (same_progress (take (j + 1) T) p c s later.progress has later.has) ∙ ap (λ (v : Command). v.tag) later.grows.command)

        done : at_fix.0.done ≡ true
        done = status_is.done c at_fix.0 at_fix.1 (subst (IsBitSet groups) (sym tag) bit)

        i_low : i < status_is.place + 1
        i_low = no_step_after i (status_is.place + 1) p c at_fix.0 fix_there done (of_there T i (j + 1) p c (omega arith) st)
