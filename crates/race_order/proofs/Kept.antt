-- After a step each set is again the past of its sources.
use Rattle.std.proofs.Common.{◌≡◌, ℕ, ◌+◌, ◌-◌, ◌<◌, ◌≤◌, ◌==◌, Bool, true, false, [], ◌∷◌, ◌++◌, length, take, Some, ◌⊎◌, inl, inr, refl, sym, ap, ap₂, ◌∙◌, subst, arith}
use Rattle.std.specs.Prelude.{slice_get}
use Rattle.std.proofs.lemmas.Bool.{cases_lt, cases_Bool, eqb-true, and_parts, both_ways}
use Rattle.std.proofs.lemmas.List.{take_all}
use Rattle.std.proofs.lemmas.Option.{slice_get_within}
use Rattle.std.proofs.Math.Path.{fun_ext}
use Rattle.order_sets.specs.declared.facts.At.{At}
use Rattle.cell_base.specs.declared.steps.Step.{Step}
use Rattle.cell_base.specs.declared.steps.Step.TheVariants.{Exec, Piece, Elem, Retire, Atomic, Host}
use Rattle.mfc_command.specs.declared.command.Command.{Command}
use Rattle.race_order.specs.Trace.{Event, Trace, is_of}
use Rattle.race_order.specs.declared.progress.Progress.{Progress}
use Rattle.race_order.specs.Status.{stepped, elements_done}
use Rattle.race_order.specs.Queue.{Has, IsStepOfElement, IsStalled, Resumes}
use Rattle.race_order.specs.StatusRules.{Rule}
use Rattle.race_order.specs.declared.roles.Role.{Role}
use Rattle.race_order.specs.Stamps.{IsStamp}
use Rattle.race_order.specs.Roles.{Source}
use Rattle.race_order.specs.Orderly.{IsOrderly}
use Rattle.race_order.specs.Pasts.{Past, Holds}
use Rattle.race_order.proofs.Places.{get_last, get_later, longer, take_front, take_before, take_whole, place_of}
use Rattle.race_order.proofs.Holding.{past_of}
use Rattle.race_order.proofs.Advance.{set_kept}
use Rattle.race_order.proofs.Statuses.{Steps, done_all, done_le}
use Rattle.race_order.proofs.Histories.{same_progress, Later, later_next, later_at, Came, Newly, Kept, Moved, came, valid_at}
use Rattle.race_order.proofs.Queues.{element_there}
use Rattle.race_order.proofs.PastLaws.{past_grows, left_some}
use Rattle.race_order.proofs.Halts.{no_element_after, stalled_waits, element_waits}
use Rattle.race_order.proofs.Elements.{element_here, of_itself, read_stepped}
use Rattle.race_order.proofs.Answering.{by_plain, made, new_step}
use Rattle.race_order.proofs.Wholes.{complete_waits, part_waits}
use Rattle.race_order.proofs.Keeping.{later_set, waits_kept, part_front, part_later, part_inside}
use Rattle.race_order.specs.Pasts.{IsPast}
use Rattle.race_order.specs.Premises.{MayStep, QueueMay, IsQueued, is_spe, FitsProgress}
use Rattle.race_order.specs.declared.roles.Class.{Class}
use Rattle.race_order.specs.declared.roles.Class.TheVariants.{Tag}
use Rattle.race_order.specs.declared.roles.QueueRole.{QueueRole}
use Rattle.race_order.specs.declared.roles.QueueRole.TheVariants.{Base, Waits, Complete, Fixed, Stalled}
use Rattle.race_order.specs.Sources.{is_in, QueueSource, WaitSource, CompleteSource, FixedSource, StalledSource, IsPartOf, IsKept}
use Rattle.race_order.proofs.Nexts.{Completes, Stalls, Fixes, CompleteNext, WasComplete, IsNow, FixedNext, WasFixed, FixedNow, StalledNext, WasStalled, StalledNow, AreNext}

module _ (n : ℕ) (trace : Trace) (e : Event) (orderly : IsOrderly n (trace ++ (e ∷ []))) (queued : IsQueued (trace ++ (e ∷ []))) (sets next : QueueRole → At → Bool) (holds : (r : QueueRole) → IsKept trace r → Holds Rule n (IsPast n) trace (sets r) (QueueSource trace r)) (brought : At → Bool) (pointed : Holds Rule n (IsPast n) (trace ++ (e ∷ [])) brought (λ k. k ≡ length trace)) (nx : AreNext n sets next trace e brought) where
  abbrev T : Trace
  T = trace ++ (e ∷ [])

  front : take (length trace) T ≡ trace
  front = take_before trace e

  later : (r : QueueRole) → IsKept trace r → Holds Rule n (IsPast n) T (sets r) (QueueSource trace r)
  later r kept = later_set n trace e orderly queued sets next holds brought pointed nx r kept

  waits : (p c : ℕ) → IsKept trace (Waits p c) → Holds Rule n (IsPast n) T (next (Waits p c)) (WaitSource T p c)
  waits p c live = waits_kept n trace e orderly queued sets next holds brought pointed nx p c live

  complete_later : (p k : ℕ) (class : Class) → CompleteSource trace p class k → CompleteSource T p class k
  complete_later p k class s =
      let l : Later T p s.command s.progress = later_next trace e p s.command s.progress s.complete.has in
      let same : l.progress ≡ s.progress = l.frozen s.complete.done in
      record {
        command = s.command;
        progress = l.progress;
        complete = record { has = l.has; done = ap (λ (v : Progress). v.done) same ∙ s.complete.done };
        of = ap (λ (v : Progress). is_in class v.command) same ∙ s.of;
        part = part_later n trace e orderly queued sets next holds brought pointed nx p s.command k s.part;
      }

  -- a command that is complete was so before, or is now
  complete_cases : (p k : ℕ) (class : Class) (s : CompleteSource T p class k) → CompleteSource trace p class k ⊎ Completes trace e p s.command
  complete_cases p k class s = by (came trace e p s.command s.progress s.complete.has)
    where
      never : false ≡ true → ⊥
      never y = cc

      by : Came trace e p s.command s.progress → CompleteSource trace p class k ⊎ Completes trace e p s.command
      by (Newly x f g z) = absurd (never (ap (λ (v : Progress). v.done) (sym z) ∙ s.complete.done))
      by (Kept t h d same) =
          inl
          record {
            command = s.command;
            progress = t;
            complete = record { has = h; done = d };
            of = ap (λ (v : Progress). is_in class v.command) (sym same) ∙ s.of;
            part = part_front n trace e orderly queued sets next holds brought pointed nx p s.command k t h d s.part;
          }
      by (Moved t h live f st) = inr record { progress = s.progress; now = s.complete; before = λ u g. subst (λ (v : Progress). v.done ≡ false) (same_progress trace p s.command t u h g) live }

  pub complete_kept : (p : ℕ) (class : Class) → Holds Rule n (IsPast n) T (next (Complete p class)) (CompleteSource T p class)
  complete_kept p class =
      record { inside = λ k s. part_inside n trace e orderly queued sets next holds brought pointed nx p s.command k s.part; sound = λ i a st t. sound i a st ((nx.complete p class a).0 t); full = λ i a st x. (nx.complete p class a).1 (full i a st x (complete_cases p x.source class x.is)); old = λ a t. old a ((nx.complete p class a).0 t) }
    where
      sound : (i : ℕ) (a : At) → IsStamp n T i a → CompleteNext sets next trace e p class a → Past Rule T (CompleteSource T p class) i
      sound i a st (WasComplete t) = past_of Rule T (CompleteSource trace p class) (CompleteSource T p class) i (λ k s. record { source = k; is = complete_later p k class s; ordered = inl refl }) ((later (Complete p class) tt).sound i a st t)
      sound i a st (IsNow c x of t) =
          past_of Rule T (WaitSource T p c) (CompleteSource T p class) i
          (λ k s. past_of Rule T (λ y. IsPartOf T y p c) (CompleteSource T p class) k (λ y part. record { source = y; is = record { command = c; progress = x.progress; complete = x.now; of = of; part = part }; ordered = inl refl }) (complete_waits T queued n orderly p c x.progress x.now k s))
          ((waits p c x.before).sound i a st t)

      full : (i : ℕ) (a : At) → IsStamp n T i a → (x : Past Rule T (CompleteSource T p class) i) → CompleteSource trace p class x.source ⊎ Completes trace e p x.is.command → CompleteNext sets next trace e p class a
      full i a st x (inl s) = WasComplete ((later (Complete p class) tt).full i a st record { source = x.source; is = s; ordered = x.ordered })
      full i a st x (inr c) =
          let same : x.is.progress ≡ c.progress = same_progress T p x.is.command x.is.progress c.progress x.is.complete.has c.now.has in
          IsNow x.is.command c (ap (λ (v : Progress). is_in class v.command) (sym same) ∙ x.is.of)
          ((waits p x.is.command c.before).full i a st record { source = x.source; is = part_waits T queued n orderly p x.is.command c.progress c.now x.source x.is.part; ordered = x.ordered })

      old : (a : At) → CompleteNext sets next trace e p class a → IsPast n T a
      old a (WasComplete t) = past_grows n trace e a ((holds (Complete p class) tt).old a t)
      old a (IsNow c x of t) = (waits p c x.before).old a t

  whole : take (length trace + 1) T ≡ T
  whole = take_whole trace e

  fixed_later : (p g k : ℕ) → FixedSource trace p g k → FixedSource T p g k
  fixed_later p g k s =
      let low : s.place < length trace = slice_get_within trace s.place s.fixed.event s.fixed.at in
      record {
        place = s.place;
        fixed = record { event = s.fixed.event; at = get_later trace e s.place s.fixed.event s.fixed.at; is = s.fixed.is; fixed = s.fixed.fixed };
        source = subst (λ t. CompleteSource t p (Tag g) k) (sym (take_front trace e (s.place + 1) (omega arith))) s.source;
      }

  fixed_cases : (p g k : ℕ) → FixedSource T p g k → FixedSource trace p g k ⊎ (Fixes e p × CompleteSource T p (Tag g) k)
  fixed_cases p g k s = by (place_of trace e s.place s.fixed.event s.fixed.at)
    where
      by : ((s.place < length trace) × (slice_get trace s.place ≡ Some s.fixed.event)) ⊎ ((s.place ≡ length trace) × (e ≡ s.fixed.event)) → FixedSource trace p g k ⊎ (Fixes e p × CompleteSource T p (Tag g) k)
      by (inl q) =
          let l : s.place < length trace = q.0 in
          inl record { place = s.place; fixed = record { event = s.fixed.event; at = q.1; is = s.fixed.is; fixed = s.fixed.fixed }; source = subst (λ t. CompleteSource t p (Tag g) k) (take_front trace e (s.place + 1) (omega arith)) s.source }
      by (inr q) =
          inr (
            record { is = subst (λ (v : Event). is_spe p v.step ≡ true) (sym q.1) s.fixed.is; fixed = subst (λ (v : Event). v.effect.fixed ≡ true) (sym q.1) s.fixed.fixed },
            subst (λ t. CompleteSource t p (Tag g) k) (subst (λ x. take (x + 1) T ≡ T) (sym q.0) whole) s.source,
          )

  pub fixed_kept : (p g : ℕ) → g < 32 → Holds Rule n (IsPast n) T (next (Fixed p g)) (FixedSource T p g)
  fixed_kept p g low =
      record { inside = λ k s. inside k s; sound = λ i a st t. sound i a st ((nx.fixed p g a low).0 t); full = λ i a st x. (nx.fixed p g a low).1 (full i a st x (fixed_cases p g x.source x.is)); old = λ a t. old a ((nx.fixed p g a low).0 t) }
    where
      inside : (k : ℕ) → FixedSource T p g k → k < length T
      inside k s = by (fixed_cases p g k s)
        where
          by : FixedSource trace p g k ⊎ (Fixes e p × CompleteSource T p (Tag g) k) → k < length T
          by (inl x) = (later (Fixed p g) low).inside k x
          by (inr x) = part_inside n trace e orderly queued sets next holds brought pointed nx p x.1.command k x.1.part

      now : (k : ℕ) → Fixes e p → CompleteSource T p (Tag g) k → FixedSource T p g k
      now k f s = record { place = length trace; fixed = record { event = e; at = get_last trace e; is = f.is; fixed = f.fixed }; source = subst (λ t. CompleteSource t p (Tag g) k) (sym whole) s }

      sound : (i : ℕ) (a : At) → IsStamp n T i a → FixedNext sets next e p g a → Past Rule T (FixedSource T p g) i
      sound i a st (WasFixed t) = past_of Rule T (FixedSource trace p g) (FixedSource T p g) i (λ k s. record { source = k; is = fixed_later p g k s; ordered = inl refl }) ((later (Fixed p g) low).sound i a st t)
      sound i a st (FixedNow f t) = past_of Rule T (CompleteSource T p (Tag g)) (FixedSource T p g) i (λ k s. record { source = k; is = now k f s; ordered = inl refl }) ((complete_kept p (Tag g)).sound i a st t)

      full : (i : ℕ) (a : At) → IsStamp n T i a → (x : Past Rule T (FixedSource T p g) i) → FixedSource trace p g x.source ⊎ (Fixes e p × CompleteSource T p (Tag g) x.source) → FixedNext sets next e p g a
      full i a st x (inl s) = WasFixed ((later (Fixed p g) low).full i a st record { source = x.source; is = s; ordered = x.ordered })
      full i a st x (inr s) = FixedNow s.0 ((complete_kept p (Tag g)).full i a st record { source = x.source; is = s.1; ordered = x.ordered })

      old : (a : At) → FixedNext sets next e p g a → IsPast n T a
      old a (WasFixed t) = past_grows n trace e a ((holds (Fixed p g) low).old a t)
      old a (FixedNow f t) = (complete_kept p (Tag g)).old a t

  pub base_kept : (r : Role) → Holds Rule n (IsPast n) T (next (Base r)) (Source T r)
  base_kept r =
      subst (λ s. Holds Rule n (IsPast n) T s (Source T r)) (sym (fun_ext (λ a. nx.base r a)))
      (set_kept Rule by_plain n (IsPast n) (made n) trace e orderly brought pointed (past_grows n trace e) (new_step n trace e orderly queued) r (sets (Base r)) (holds (Base r) tt))

  -- a step that stalls a list is one of its steps, and so far the element that it finishes isn't done
  stall_fresh : (p c m : ℕ) (s : Progress) → Has trace p c s → s.stalled ≡ false → (t : Progress) → t ≡ stepped p c s e.step e.effect.note → Steps p c s t e.step → t.stalled ≡ true → t.read ≡ m + 1 → 0 < t.read → (k : ℕ) (r : Resumes T k p c) → r.progress.read ≤ m
  stall_fresh p c m s has quiet t is_t st stalled number some k r = by (st.halts stalled)
    where
      by : (is_of p c e.step ≡ true) ⊎ (s.stalled ≡ true) → r.progress.read ≤ m
      by (inr x) = absurd (both_ways _ quiet x)
      by (inl of) = early (place_of trace e k r.acknowledges.event r.acknowledges.at)
        where
          may : MayStep trace p c e.step e.effect.note
          may = (subst (λ u. QueueMay u e) front (queued (length trace) e (get_last trace e))).step p c of

          same : may.progress ≡ s
          same = same_progress trace p c may.progress s may.has has

          fits : FitsProgress s e.step e.effect.note
          fits = subst (λ v. FitsProgress v e.step e.effect.note) same may.fits

          done_low : elements_done s ≤ m
          done_low = at e.step refl fits
            where
              elem_not : (v : Step) → e.step ≡ v → (v ≡ Elem p c → ⊥) → t.read ≡ s.read
              elem_not v q other = which st.read
                where
                  which : (t.read ≡ s.read) ⊎ ((e.step ≡ Elem p c) × (t.read ≡ s.read + 1)) → t.read ≡ s.read
                  which (inl x) = x
                  which (inr x) = absurd (other (sym q ∙ x.0))

              at : (v : Step) → e.step ≡ v → FitsProgress s v e.effect.note → elements_done s ≤ m
              at (Exec q) f z = let g : false ≡ true = sym (ap (is_of p c) f) ∙ of in absurd cc
              at (Atomic q) f z = let g : false ≡ true = sym (ap (is_of p c) f) ∙ of in absurd cc
              at Host f z = let g : false ≡ true = sym (ap (is_of p c) f) ∙ of in absurd cc
              at (Retire q d) f z =
                  let a : t.read ≡ s.read = elem_not (Retire q d) f (λ y. cc) in
                  let b : s.read ≡ 0 = z.1 in
                  absurd (omega arith)
              at (Piece q d l j) f z =
                  let a : t.read ≡ s.read = elem_not (Piece q d l j) f (λ y. cc) in
                  let b : elements_done s ≡ s.read - 1 = left_some s z.0 in
                  omega arith
              at (Elem q d) f z =
                  let w = and_parts (q == p) (d == c) (sym (ap (is_of p c) f) ∙ of) in
                  let a : t.read ≡ s.read + 1 = ap (λ (v : Progress). v.read) (is_t ∙ ap (λ v. stepped p c s v e.effect.note) (f ∙ ap₂ Elem (eqb-true q p w.0) (eqb-true d c w.1))) ∙ read_stepped p c s e.effect.note in
                  let b : elements_done s ≤ s.read = done_le s in
                  omega arith

          early : ((k < length trace) × (slice_get trace k ≡ Some r.acknowledges.event)) ⊎ ((k ≡ length trace) × (e ≡ r.acknowledges.event)) → r.progress.read ≤ m
          early (inr q) =
              let f : e.step ≡ Exec p = ap (λ (v : Event). v.step) q.1 ∙ r.acknowledges.is in
              let g : false ≡ true = sym (ap (is_of p c) f) ∙ of in
              absurd cc
          early (inl q) =
              let low : k < length trace = q.0 in
              let l0 : length T ≡ length trace + 1 = longer trace e in
              let l : Later (take (length trace) T) p c r.progress = later_at T p c k (length trace) r.progress (omega arith) (omega arith) r.has in
              let sm : l.progress ≡ s = same_progress trace p c l.progress s (subst (λ u. Has u p c l.progress) front l.has) has in
              let left : r.progress.left ≡ 0 = (valid_at (take k T) p c r.progress r.has).rest r.stalled in
              let d : elements_done r.progress ≡ r.progress.read = done_all r.progress left in
              let g : elements_done r.progress ≤ elements_done l.progress = l.grows.done in
              let x : elements_done l.progress ≡ elements_done s = ap elements_done sm in
              let y : elements_done s ≤ m = done_low in
              omega arith

  abbrev stalls_at : (b p c m : ℕ) → b ≤ length trace → IsStalled T b p c m → IsStalled trace b p c m
  stalls_at b p c m low h = record { progress = h.progress; has = subst (λ u. Has u p c h.progress) (take_front trace e b low) h.has; stalled = h.stalled; number = h.number }

  abbrev stalls_later : (b p c m : ℕ) → b ≤ length trace → IsStalled trace b p c m → IsStalled T b p c m
  stalls_later b p c m low h = record { progress = h.progress; has = subst (λ u. Has u p c h.progress) (sym (take_front trace e b low)) h.has; stalled = h.stalled; number = h.number }

  to_front : (k p c m : ℕ) → k < length trace → IsStepOfElement T k p c m → IsStepOfElement trace k p c m
  to_front k p c m low s = subst (λ u. IsStepOfElement u k p c m) front (element_here T queued p c m k (length trace) low s)

  from_front : (k p c m : ℕ) → k < length trace → IsStepOfElement trace k p c m → IsStepOfElement T k p c m
  from_front k p c m low s = element_there T (length trace) k p c m low (subst (λ u. IsStepOfElement u k p c m) (sym front) s)

  element_inside : (t : Trace) (k p c m : ℕ) → IsStepOfElement t k p c m → k < length t
  element_inside t k p c m (inl r) = slice_get_within t k r.step.event r.step.at
  element_inside t k p c m (inr q) = slice_get_within t k q.1.event q.1.at

  stalled_later : (p g k : ℕ) → StalledSource trace p g k → StalledSource T p g k
  stalled_later p g k s =
      let w : s.after ≤ length trace = s.within in
      let l0 : length T ≡ length trace + 1 = longer trace e in
      record {
        command = s.command;
        element = s.element;
        after = s.after;
        within = omega arith;
        stall = stalls_later s.after p s.command s.element w s.stall;
        tag = s.tag;
        step = from_front k p s.command s.element (element_inside trace k p s.command s.element s.step) s.step;
      }

  -- a stall that a source speaks of was there before the step, or is new
  record NewStall (p g k : ℕ) : Type 0 where
    command : ℕ
    element : ℕ
    new : Stalls trace e p command
    number : new.progress.read ≡ element + 1
    tag : new.progress.command.tag ≡ g
    step : IsStepOfElement T k p command element

  stalled_cases : (p g k : ℕ) → StalledSource T p g k → StalledSource trace p g k ⊎ NewStall p g k
  stalled_cases p g k s = by (cases_lt (length trace) s.after)
    where
      never : false ≡ true → ⊥
      never y = cc

      old : (b : ℕ) → b ≤ length trace → (h : IsStalled T b p s.command s.element) → h.progress.command.tag ≡ g → StalledSource trace p g k
      old b low h tag =
          let l0 : length T ≡ length trace + 1 = longer trace e in
          let kb : k < b = no_element_after T queued n orderly b k p s.command s.element (omega arith) h s.step in
          record { command = s.command; element = s.element; after = b; within = low; stall = stalls_at b p s.command s.element low h; tag = tag; step = to_front k p s.command s.element (omega arith) s.step }

      by : (length trace < s.after) ⊎ (s.after ≤ length trace) → StalledSource trace p g k ⊎ NewStall p g k
      by (inr low) = inl (old s.after low s.stall s.tag)
      by (inl high) = how (came trace e p s.command s.stall.progress has)
        where
          at_end : s.after ≡ length trace + 1
          at_end = let l0 : length T ≡ length trace + 1 = longer trace e in let w : s.after ≤ length T = s.within in omega arith

          has : Has T p s.command s.stall.progress
          has = subst (λ u. Has u p s.command s.stall.progress) (subst (λ x. take x T ≡ T) (sym at_end) whole) s.stall.has

          how : Came trace e p s.command s.stall.progress → StalledSource trace p g k ⊎ NewStall p g k
          how (Newly x f q z) = absurd (never (ap (λ (v : Progress). v.stalled) (sym z) ∙ s.stall.stalled))
          how (Kept t h d same) = absurd (both_ways _ ((valid_at trace p s.command t h).calm d) (ap (λ (v : Progress). v.stalled) (sym same) ∙ s.stall.stalled))
          how (Moved t h live f st) = which (cases_Bool t.stalled)
            where
              which : (t.stalled ≡ true) ⊎ (t.stalled ≡ false) → StalledSource trace p g k ⊎ NewStall p g k
              which (inr q) =
                  inr record { command = s.command; element = s.element; new = record { progress = s.stall.progress; has = has; stalled = s.stall.stalled; before = λ u j. subst (λ (v : Progress). v.stalled ≡ false) (same_progress trace p s.command t u h j) q }; number = s.stall.number; tag = s.tag; step = s.step }
              which (inl q) =
                  inl
                  (old (length trace) (omega arith) record { progress = t; has = subst (λ u. Has u p s.command t) (sym front) h; stalled = q; number = sym (same_read st.read) ∙ s.stall.number }
                  (ap (λ (v : Command). v.tag) (sym st.grows.command) ∙ s.tag))
                where
                  same_read : (s.stall.progress.read ≡ t.read) ⊎ ((e.step ≡ Elem p s.command) × (s.stall.progress.read ≡ t.read + 1)) → s.stall.progress.read ≡ t.read
                  same_read (inl x) = x
                  same_read (inr x) =
                      let of : is_of p s.command e.step ≡ true = ap (is_of p s.command) x.0 ∙ of_itself p s.command in
                      let may : MayStep trace p s.command e.step e.effect.note = (subst (λ u. QueueMay u e) front (queued (length trace) e (get_last trace e))).step p s.command of in
                      let fits : FitsProgress may.progress (Elem p s.command) e.effect.note = subst (λ v. FitsProgress may.progress v e.effect.note) x.0 may.fits in
                      let eq : may.progress ≡ t = same_progress trace p s.command may.progress t may.has h in
                      absurd (both_ways _ (subst (λ (v : Progress). v.stalled ≡ false) eq fits.2) q)

  new_waits : (p c m : ℕ) (x : Stalls trace e p c) → x.progress.read ≡ m + 1 → (k : ℕ) → WaitSource T p c k → Past Rule T (λ y. IsStepOfElement T y p c m) k
  new_waits p c m x number k w = how (came trace e p c x.progress x.has)
    where
      never : false ≡ true → ⊥
      never y = cc

      how : Came trace e p c x.progress → Past Rule T (λ y. IsStepOfElement T y p c m) k
      how (Newly a f q z) = absurd (never (ap (λ (v : Progress). v.stalled) (sym z) ∙ x.stalled))
      how (Kept t h d same) = absurd (both_ways _ ((valid_at trace p c t h).calm d) (ap (λ (v : Progress). v.stalled) (sym same) ∙ x.stalled))
      how (Moved t h live f st) =
          stalled_waits T queued n orderly p c m x.progress x.has x.stalled number
          (stall_fresh p c m t h (x.before t h) x.progress f st x.stalled number (let r : x.progress.read ≡ m + 1 = number in omega arith)) k w

  -- a list that is stalled now was not complete before
  stalls_live : (p c : ℕ) → Stalls trace e p c → IsKept trace (Waits p c)
  stalls_live p c x s h = by (cases_Bool s.done)
    where
      by : (s.done ≡ true) ⊎ (s.done ≡ false) → s.done ≡ false
      by (inr q) = q
      by (inl q) =
          let l : Later T p c s = later_next trace e p c s h in
          let f : x.progress ≡ s = same_progress T p c x.progress l.progress x.has l.has ∙ l.frozen q in
          absurd (both_ways _ (x.before s h) (ap (λ (v : Progress). v.stalled) (sym f) ∙ x.stalled))

  pub stalled_kept : (p g : ℕ) → Holds Rule n (IsPast n) T (next (Stalled p g)) (StalledSource T p g)
  stalled_kept p g =
      record { inside = λ k s. element_inside T k p s.command s.element s.step; sound = λ i a st t. sound i a st ((nx.stalled p g a).0 t); full = λ i a st x. (nx.stalled p g a).1 (full i a st x (stalled_cases p g x.source x.is)); old = λ a t. old a ((nx.stalled p g a).0 t) }
    where
      sound : (i : ℕ) (a : At) → IsStamp n T i a → StalledNext sets next trace e p g a → Past Rule T (StalledSource T p g) i
      sound i a st (WasStalled t) = past_of Rule T (StalledSource trace p g) (StalledSource T p g) i (λ k s. record { source = k; is = stalled_later p g k s; ordered = inl refl }) ((later (Stalled p g) tt).sound i a st t)
      sound i a st (StalledNow c x tag t) =
          past_of Rule T (WaitSource T p c) (StalledSource T p g) i
          (λ k s. past_of Rule T (λ y. IsStepOfElement T y p c (x.progress.read - 1)) (StalledSource T p g) k
          (λ y step. record { source = y; is = record { command = c; element = x.progress.read - 1; after = length T; within = omega arith; stall = record { progress = x.progress; has = subst (λ u. Has u p c x.progress) (sym (take_all (length T) T (omega arith))) x.has; stalled = x.stalled; number = number }; tag = tag; step = step }; ordered = inl refl })
          (new_waits p c (x.progress.read - 1) x number k s))
          ((waits p c (stalls_live p c x)).sound i a st t)
        where
          number : x.progress.read ≡ (x.progress.read - 1) + 1
          number = let l : 0 < x.progress.read = (valid_at T p c x.progress x.has).listed x.stalled in omega arith

      full : (i : ℕ) (a : At) → IsStamp n T i a → (x : Past Rule T (StalledSource T p g) i) → StalledSource trace p g x.source ⊎ NewStall p g x.source → StalledNext sets next trace e p g a
      full i a st x (inl s) = WasStalled ((later (Stalled p g) tt).full i a st record { source = x.source; is = s; ordered = x.ordered })
      full i a st x (inr s) =
          StalledNow s.command s.new s.tag
          ((waits p s.command (stalls_live p s.command s.new)).full i a st record { source = x.source; is = element_waits T queued n orderly p s.command s.element x.source s.new.progress s.new.has s.new.stalled s.number s.step; ordered = x.ordered })

      old : (a : At) → StalledNext sets next trace e p g a → IsPast n T a
      old a (WasStalled t) = past_grows n trace e a ((holds (Stalled p g) tt).old a t)
      old a (StalledNow c x tag t) = (waits p c (stalls_live p c x)).old a t

  -- after the step every set that was kept is the past of its sources
  pub all_kept : (r : QueueRole) → IsKept trace r → Holds Rule n (IsPast n) T (next r) (QueueSource T r)
  all_kept (Base r) kept = base_kept r
  all_kept (Waits p d) kept = waits p d kept
  all_kept (Complete p class) kept = complete_kept p class
  all_kept (Fixed p g) kept = fixed_kept p g kept
  all_kept (Stalled p g) kept = stalled_kept p g

  -- what is kept after the step was kept before
  pub kept_before : (r : QueueRole) → IsKept T r → IsKept trace r
  kept_before (Base r) kept = tt
  kept_before (Waits p d) kept = λ s h. by s h (cases_Bool s.done)
    where
      by : (s : Progress) → Has trace p d s → (s.done ≡ true) ⊎ (s.done ≡ false) → s.done ≡ false
      by s h (inr q) = q
      by s h (inl q) =
          let l : Later T p d s = later_next trace e p d s h in
          subst (λ (v : Progress). v.done ≡ false) (l.frozen q) (kept l.progress l.has)
  kept_before (Complete p class) kept = tt
  kept_before (Fixed p g) kept = kept
  kept_before (Stalled p g) kept = tt
