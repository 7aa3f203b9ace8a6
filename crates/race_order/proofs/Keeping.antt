-- After a step the set of what a command's steps wait for is again the past of its sources.
use Rattle.std.proofs.Common.{◌≡◌, ℕ, zero, suc, ◌+◌, ◌*◌, ◌<◌, ◌≤◌, ◌==◌, ◌||◌, Bool, true, false, [], ◌∷◌, ◌++◌, length, take, Option, Some, None, ◌⊎◌, inl, inr, refl, sym, ap, ap₂, ◌∙◌, subst, subst₂, arith}
use Rattle.std.specs.Prelude.{slice_get, if◌then◌else◌}
use Rattle.std.proofs.lemmas.Bool.{cases_lt, both_ways, eqb-true, eq-eqb, and_from, and_parts}
use Rattle.std.proofs.lemmas.List.{take_all}
use Rattle.std.proofs.lemmas.Option.{slice_get_within}
use Rattle.order_sets.specs.declared.facts.At.{At}
use Rattle.cell_base.specs.declared.steps.Step.{Step}
use Rattle.cell_base.specs.declared.steps.Step.TheVariants.{Exec, Piece, Elem, Retire, Atomic, Host}
use Rattle.mfc_command.specs.declared.command.Command.{Command}
use Rattle.cell_machine.specs.declared.effect.Note.{Note}
use Rattle.cell_machine.specs.declared.effect.Note.TheVariants.{Issue, Ack, Put, Take, Signal}
use Rattle.mfc_command.specs.Order.{is_barred, is_barrier, precedes}
use Rattle.race_order.proofs.Reasons.{GoesBefore, ByFence, ByBarrierAfter, ByBarrierBefore, OverAll, UnderAll, kind_is, barred_is, reasons, goes_first}
use Rattle.race_order.specs.Trace.{Event, Trace, IsStepOf, is_of}
use Rattle.race_order.specs.declared.progress.Progress.{Progress}
use Rattle.race_order.specs.Status.{status, next_status, first_status, issued_as, begun, stepped, elements_done}
use Rattle.race_order.specs.Queue.{Has, Before, Resumes}
use Rattle.race_order.specs.Rules.{Edge, Ordered, One, Then}
use Rattle.race_order.specs.StatusRules.{Rule}
use Rattle.race_order.specs.declared.roles.Role.{Role}
use Rattle.race_order.specs.Stamps.{stamp, IsStamp, chain_of, cmd_of, elem_of}
use Rattle.race_order.specs.Roles.{Source, read_roles, step_reads, note_reads, line_roles}
use Rattle.race_order.specs.Orderly.{IsOrderly, IsWithin}
use Rattle.race_order.specs.Pasts.{Past, Holds}
use Rattle.race_order.proofs.Places.{get_last, get_later, longer, take_front, take_before, place_of, same_get}
use Rattle.race_order.proofs.Among.{Among, Every, Found, among_every}
use Rattle.race_order.proofs.Holding.{holds_later, past_of}
use Rattle.race_order.proofs.Histories.{status_next, same_progress, Later, later_at, later_next, issued_there, Came, Newly, Kept, Moved, came}
use Rattle.race_order.proofs.Elements.{may_at}
use Rattle.race_order.proofs.Queues.{of_here, resumes_here, resumes_there, no_step_after, no_resume_after, queue_full}
use Rattle.race_order.proofs.PastLaws.{past_grows, chain_queue}
use Rattle.race_order.proofs.Answering.{new_step}
use Rattle.race_order.proofs.Wholes.{complete_waits, part_waits, waits_more}
use Rattle.race_order.specs.Pasts.{IsPast, Over}
use Rattle.race_order.specs.Premises.{MayStep, QueueMay, IsQueued, IsNext, IsQuiet}
use Rattle.race_order.specs.declared.roles.Class.{Class}
use Rattle.race_order.specs.declared.roles.Class.TheVariants.{All, Tag, BarredTag, Barriers}
use Rattle.race_order.specs.declared.roles.QueueRole.{QueueRole}
use Rattle.race_order.specs.declared.roles.QueueRole.TheVariants.{Base, Waits, Complete, Fixed, Stalled}
use Rattle.race_order.specs.Sources.{is_in, QueueSource, WaitSource, Begun, Earlier, Acked, Read, Part, Whole, IsComplete, CompleteSource, IsPartOf, IsOwn, IsKept}
use Rattle.race_order.specs.Lines.{moves_line}
use Rattle.race_order.proofs.WholeLines.{IsDone, beyond_done}
use Rattle.race_order.proofs.Sees.{LooksAt}
use Rattle.race_order.proofs.Nexts.{is_delivery, looks_beyond, Completes, IssuesNow, GoesInto, GoesAhead, OfAll, OfTag, OfBarred, OfBarriers, WaitsNext, Stays, Itself, AtIssue, FromEarlier, Own, AreNext}

-- the classes that go ahead of a command have exactly the commands that go before it
ahead_reason : (c d : Command) (class : Class) → GoesAhead d class → is_in class c ≡ true → GoesBefore c d
ahead_reason c d class (OfAll k) e = UnderAll k
ahead_reason c d class (OfTag (inl m)) e = ByFence (eqb-true c.tag d.tag e) m
ahead_reason c d class (OfTag (inr m)) e = ByBarrierAfter (eqb-true c.tag d.tag e) m
ahead_reason c d class OfBarred e = let a = and_parts (c.tag == d.tag) (is_barred c.mark) e in ByBarrierBefore (eqb-true c.tag d.tag a.0) (barred_is c.mark a.1)
ahead_reason c d class OfBarriers e = OverAll (kind_is c.kind e)

reason_ahead : (c d : Command) → GoesBefore c d → (class : Class) × GoesAhead d class × (is_in class c ≡ true)
reason_ahead c d (ByFence t m) = (Tag d.tag, OfTag (inl m), eq-eqb c.tag d.tag t)
reason_ahead c d (ByBarrierAfter t m) = (Tag d.tag, OfTag (inr m), eq-eqb c.tag d.tag t)
reason_ahead c d (ByBarrierBefore t m) = (BarredTag d.tag, OfBarred, and_from (c.tag == d.tag) (is_barred c.mark) (eq-eqb c.tag d.tag t) (ap is_barred m))
reason_ahead c d (OverAll k) = (Barriers, OfBarriers, ap is_barrier k)
reason_ahead c d (UnderAll k) = (All, OfAll k, refl)

ahead_goes : (c d : Command) (class : Class) → GoesAhead d class → is_in class c ≡ true → precedes c d ≡ true
ahead_goes c d class a e = goes_first c d (ahead_reason c d class a e)

goes_ahead : (c d : Command) → precedes c d ≡ true → (class : Class) × GoesAhead d class × (is_in class c ≡ true)
goes_ahead c d e = reason_ahead c d (reasons c d e)

of_chain : (n p d : ℕ) (s : Step) → is_of p d s ≡ true → (chain_of n s ≡ 2 * n + p) × (cmd_of s ≡ d)
of_chain n p d (Exec q) e = cc
of_chain n p d (Atomic q) e = cc
of_chain n p d Host e = cc
of_chain n p d (Piece q c x k) e = let a = and_parts (q == p) (c == d) e in (ap (λ v. 2 * n + v) (eqb-true q p a.0), eqb-true c d a.1)
of_chain n p d (Elem q c) e = let a = and_parts (q == p) (c == d) e in (ap (λ v. 2 * n + v) (eqb-true q p a.0), eqb-true c d a.1)
of_chain n p d (Retire q c) e = let a = and_parts (q == p) (c == d) e in (ap (λ v. 2 * n + v) (eqb-true q p a.0), eqb-true c d a.1)

of_one : (p d q c : ℕ) (s : Step) → is_of p d s ≡ true → is_of q c s ≡ true → (q ≡ p) × (c ≡ d)
of_one p d q c (Exec x) e f = cc
of_one p d q c (Atomic x) e f = cc
of_one p d q c Host e f = cc
of_one p d q c (Piece x y z k) e f = let a = and_parts (x == p) (y == d) e in let b = and_parts (x == q) (y == c) f in (sym (eqb-true x q b.0) ∙ eqb-true x p a.0, sym (eqb-true y c b.1) ∙ eqb-true y d a.1)
of_one p d q c (Elem x y) e f = let a = and_parts (x == p) (y == d) e in let b = and_parts (x == q) (y == c) f in (sym (eqb-true x q b.0) ∙ eqb-true x p a.0, sym (eqb-true y c b.1) ∙ eqb-true y d a.1)
of_one p d q c (Retire x y) e f = let a = and_parts (x == p) (y == d) e in let b = and_parts (x == q) (y == c) f in (sym (eqb-true x q b.0) ∙ eqb-true x p a.0, sym (eqb-true y c b.1) ∙ eqb-true y d a.1)

-- a step of a queued command that moves no line whole and delivers no signal looks at no plain set
quiet_reads : (before : Trace) (p d : ℕ) (e : Event) → is_of p d e.step ≡ true → IsQuiet e.effect.note → looks_beyond before e ≡ false → Every (λ (r : Role). ⊥) (read_roles before e)
quiet_reads before p d e of quiet beyond =
    let none = or_none (moves_line before e.step) (is_delivery e.effect.note) beyond in
    subst (λ b. Every (λ (r : Role). ⊥) (step_reads e.step ++ (note_reads before e.step e.effect.note ++ line_roles b e.effect))) (sym none.0) (at e.step e.effect.note of quiet none.1)
  where
    or_none : (a b : Bool) → (a || b) ≡ false → (a ≡ false) × (b ≡ false)
    or_none false false h = (refl, refl)
    or_none false true h = cc
    or_none true b h = cc

    at : (s : Step) (t : Note) → is_of p d s ≡ true → IsQuiet t → is_delivery t ≡ false → Every (λ (r : Role). ⊥) (step_reads s ++ (note_reads before s t ++ line_roles false e.effect))
    at (Exec x) t o z n = cc
    at (Atomic x) t o z n = cc
    at Host t o z n = cc
    at (Piece x y w k) (Put a b) o z n = absurd z
    at (Piece x y w k) (Take a b) o z n = absurd z
    at (Piece x y w k) (Signal a b) o z n = cc
    at (Piece x y w k) _ o z n = tt
    at (Elem x y) (Put a b) o z n = absurd z
    at (Elem x y) (Take a b) o z n = absurd z
    at (Elem x y) (Signal a b) o z n = cc
    at (Elem x y) _ o z n = tt
    at (Retire x y) (Put a b) o z n = absurd z
    at (Retire x y) (Take a b) o z n = absurd z
    at (Retire x y) (Signal a b) o z n = cc
    at (Retire x y) _ o z n = tt

-- an issue changes the progress of no other command
pub stepped_issue : (p c q d : ℕ) (command : Command) (s : Progress) → stepped p c s (Exec q) (Issue d command) ≡ s
stepped_issue p c q d command s = at (q == p)
  where
    at : (b : Bool) → (if b then s else s) ≡ s
    at true = refl
    at false = refl

-- a command that is issued now has begun
pub issued_now : (trace : Trace) (e : Event) (p d : ℕ) (command : Command) → status p d trace ≡ None → IssuesNow e p d command → Has (trace ++ (e ∷ [])) p d (begun command)
issued_now trace e p d command none h =
    record {
      is =
          status_next p d trace e
          ∙ (ap (λ o. next_status p d o e) none
          ∙ (ap₂ (λ x y. first_status p d x y) h.is h.notes
          ∙ (ap (λ (b : Bool). if b then issued_as d (Issue d command) else None) (eq-eqb p p refl) ∙ ap (λ (b : Bool). if b then Some (begun command) else None) (eq-eqb d d refl))));
    }

module _ (n : ℕ) (trace : Trace) (e : Event) (orderly : IsOrderly n (trace ++ (e ∷ []))) (queued : IsQueued (trace ++ (e ∷ []))) (sets next : QueueRole → At → Bool) (holds : (r : QueueRole) → IsKept trace r → Holds Rule n (IsPast n) trace (sets r) (QueueSource trace r)) (brought : At → Bool) (pointed : Holds Rule n (IsPast n) (trace ++ (e ∷ [])) brought (λ k. k ≡ length trace)) (nx : AreNext n sets next trace e brought) where
  abbrev T : Trace
  T = trace ++ (e ∷ [])

  long : length T ≡ length trace + 1
  long = longer trace e

  front : take (length trace) T ≡ trace
  front = take_before trace e

  here : slice_get T (length trace) ≡ Some e
  here = get_last trace e

  may : QueueMay trace e
  may = subst (λ t. QueueMay t e) front (queued (length trace) e here)

  pub later_set : (r : QueueRole) → IsKept trace r → Holds Rule n (IsPast n) T (sets r) (QueueSource trace r)
  later_set r kept = holds_later Rule n (IsPast n) trace e (sets r) (QueueSource trace r) (past_grows n trace e) (new_step n trace e orderly queued) (holds r kept)

  pub has_front : (p c : ℕ) (s : Progress) → Has trace p c s → Has (take (length trace) T) p c s
  has_front p c s h = subst (λ t. Has t p c s) (sym front) h

  abbrev HoldsWaits : ℕ → ℕ → Type 0
  HoldsWaits p d = Holds Rule n (IsPast n) T (next (Waits p d)) (WaitSource T p d)

  pub waits_later : (p d k : ℕ) → k < length trace → WaitSource trace p d k → WaitSource T p d k
  waits_later p d k low w = waits_more T queued (length trace) (let l : length T ≡ length trace + 1 = long in omega arith) p d k low (subst (λ t. WaitSource t p d k) (sym front) w)

  -- a processor that issued a command is one of the n
  pub spe_low : (p c : ℕ) (s : Progress) → Has T p c s → p < n
  spe_low p c s h =
      let w : take (length T) T ≡ T = take_all (length T) T (omega arith) in
      let i = issued_there T p c (length T) s (omega arith) (subst (λ t. Has t p c s) (sym w) h) in
      subst (IsWithin n) i.2.is (orderly i.0 i.2.event i.2.at).within

  pub part_inside : (p c k : ℕ) → IsPartOf T k p c → k < length T
  part_inside p c k (inl x) = slice_get_within T k x.event x.at
  part_inside p c k (inr x) = slice_get_within T k x.acknowledges.event x.acknowledges.at

  wait_inside : (p d k : ℕ) → WaitSource T p d k → k < length T
  wait_inside p d k (Begun command h) = slice_get_within T k h.event h.at
  wait_inside p d k (Earlier c b done part) = part_inside p c k part
  wait_inside p d k (Acked r) = slice_get_within T k r.acknowledges.event r.acknowledges.at
  wait_inside p d k (Read h) = slice_get_within T k h.event h.at
  wait_inside p d k (Part s h x) = slice_get_within T k x.step.event x.step.at
  wait_inside p d k (Whole s h st) = slice_get_within T k st.event st.at

  -- a part of a command that was complete before the step was made before it
  pub part_front : (p c k : ℕ) (s : Progress) → Has trace p c s → s.done ≡ true → IsPartOf T k p c → IsPartOf trace k p c
  part_front p c k s h done (inl x) =
      let low : k < length trace = no_step_after T queued k (length trace) p c s (has_front p c s h) done x in
      subst (λ t. IsPartOf t k p c) front (inl (of_here T k (length trace) p c low x))
  part_front p c k s h done (inr x) =
      let low : k < length trace = no_resume_after T queued k (length trace) p c s (has_front p c s h) done x in
      subst (λ t. IsPartOf t k p c) front (inr (resumes_here T k (length trace) p c low x))

  pub part_later : (p c k : ℕ) → IsPartOf trace k p c → IsPartOf T k p c
  part_later p c k (inl x) = inl record { event = x.event; at = get_later trace e k x.event x.at; is = x.is }
  part_later p c k (inr x) =
      let low : k < length trace = slice_get_within trace k x.acknowledges.event x.acknowledges.at in
      inr (resumes_there T k (length trace) p c low (subst (λ t. Resumes t k p c) (sym front) x))

  goes_source : (p d : ℕ) → GoesInto trace e p d → WaitSource T p d (length trace)
  goes_source p d (inl h) = Begun h.0 record { event = e; at = here; is = h.1.is; notes = h.1.notes }
  goes_source p d (inr (inl h)) = Read record { event = e; at = here; is = h }
  goes_source p d (inr (inr (inl h))) = Acked record { progress = h.progress; has = has_front p d h.progress h.has; stalled = h.stalled; acknowledges = record { event = e; at = here; is = h.is; notes = h.notes } }
  goes_source p d (inr (inr (inr h))) =
      let st : IsStepOf T (length trace) p d = record { event = e; at = here; is = h.is } in
      let x : IsDone (take (suc (length trace)) T) p d = beyond_done T queued p d (length trace) st (subst (λ t. looks_beyond t e ≡ true) (sym front) h.moves) in
      let whole : take (suc (length trace)) T ≡ T = take_all (suc (length trace)) T (let l : length T ≡ length trace + 1 = long in omega arith) in
      Whole x.progress record { has = subst (λ t. Has t p d x.progress) whole x.has; done = x.done } st

  number_of : (p d : ℕ) (command : Command) → IssuesNow e p d command → IsNext trace p d
  number_of p d command h = (may.issue p d command h.is h.notes).0

  complete_source : (p d k : ℕ) (command : Command) (class : Class) → IssuesNow e p d command → GoesAhead command class → CompleteSource trace p class k → WaitSource T p d k
  complete_source p d k command class h ahead s = Earlier s.command record { lower = lower; first = first.progress; second = begun command; first_is = first.has; second_is = issued_now trace e p d command (next_is.above d (omega arith)) h; goes = goes } done (part_later p s.command k s.part)
    where
      next_is : IsNext trace p d
      next_is = number_of p d command h

      lower : s.command < d
      lower = by (cases_lt s.command d)
        where
          by : (s.command < d) ⊎ (d ≤ s.command) → s.command < d
          by (inl l) = l
          by (inr le) = absurd (clash (status p s.command trace) s.progress (next_is.above s.command le) s.complete.has.is)
            where
              clash : (o : Option Progress) (t : Progress) → o ≡ None → o ≡ Some t → ⊥
              clash o t x y = cc

      first : Later T p s.command s.progress
      first = later_next trace e p s.command s.progress s.complete.has

      same : first.progress ≡ s.progress
      same = first.frozen s.complete.done

      goes : precedes first.progress.command command ≡ true
      goes = subst (λ (v : Progress). precedes v.command command ≡ true) (sym same) (ahead_goes s.progress.command command class ahead s.of)

      done : first.progress.done ≡ true
      done = ap (λ (v : Progress). v.done) same ∙ s.complete.done

  own_source : (p d i : ℕ) (a : At) → IsStamp n T i a → IsOwn n T p d a → WaitSource T p d i
  own_source p d i a st o = by o.over
    where
      low : p < n
      low = spe_low p d o.progress o.has

      of : is_of p d st.event.step ≡ true
      of =
          subst (λ c. is_of p c st.event.step ≡ true) (sym (ap (λ (x : At). x.cmd) st.is) ∙ o.cmd)
          (chain_queue n p st.event.step (orderly i st.event st.at).within low (sym (ap (λ (x : At). x.chain) st.is) ∙ o.chain))

      step : IsStepOf T i p d
      step = record { event = st.event; at = st.at; is = of }

      by : (o.progress.done ≡ true) ⊎ (a.elem < elements_done o.progress) → WaitSource T p d i
      by (inl d') = Whole o.progress record { has = o.has; done = d' } step
      by (inr l) = Part o.progress o.has record { step = record { event = st.event; at = st.at; is = of }; low = subst (λ x. x < elements_done o.progress) (ap (λ (x : At). x.elem) st.is) l }

  module _ (p d : ℕ) (live_d : IsKept trace (Waits p d)) (ih : (c : ℕ) → c < d → IsKept trace (Waits p c) → HoldsWaits p c) where
    abbrev Becomes : At → Type 0
    Becomes a = WaitsNext n sets next trace e brought p d a

    wait_past : (i : ℕ) (a : At) → IsStamp n T i a → Becomes a → Past Rule T (WaitSource T p d) i
    wait_past i a st (Stays t) =
        past_of Rule T (WaitSource trace p d) (WaitSource T p d) i (λ k s. record { source = k; is = waits_later p d k ((holds (Waits p d) live_d).inside k s) s; ordered = inl refl }) ((later_set (Waits p d) live_d).sound i a st t)
    wait_past i a st (Itself g t) =
        past_of Rule T (λ k. k ≡ length trace) (WaitSource T p d) i (λ k s. record { source = k; is = subst (WaitSource T p d) (sym s) (goes_source p d g); ordered = inl refl }) (pointed.sound i a st t)
    wait_past i a st (AtIssue command class h ahead t) =
        past_of Rule T (CompleteSource trace p class) (WaitSource T p d) i (λ k s. record { source = k; is = complete_source p d k command class h ahead s; ordered = inl refl }) ((later_set (Complete p class) tt).sound i a st t)
    wait_past i a st (FromEarlier c x b t) =
        past_of Rule T (WaitSource T p c) (WaitSource T p d) i
        (λ k s. past_of Rule T (λ y. IsPartOf T y p c) (WaitSource T p d) k
        (λ y part. record { source = y; is = Earlier c b (ap (λ (v : Progress). v.done) (same_progress T p c b.first x.progress b.first_is x.now.has) ∙ x.now.done) part; ordered = inl refl })
        (complete_waits T queued n orderly p c x.progress x.now k s))
        ((ih c b.lower x.before).sound i a st t)
    wait_past i a st (Own o) = record { source = i; is = own_source p d i a st o; ordered = inl refl }

    wait_old : (a : At) → Becomes a → IsPast n T a
    wait_old a (Stays t) = past_grows n trace e a ((holds (Waits p d) live_d).old a t)
    wait_old a (Itself g t) = pointed.old a t
    wait_old a (AtIssue command class h ahead t) = past_grows n trace e a ((holds (Complete p class) tt).old a t)
    wait_old a (FromEarlier c x b t) = (ih c b.lower x.before).old a t
    wait_old a (Own o) = Over p o.progress (spe_low p d o.progress o.has) o.chain (subst (λ c. Has T p c o.progress) (sym o.cmd) o.has) o.over

    abbrev Below : ℕ → Type 0
    Below k = (i : ℕ) (a : At) → IsStamp n T i a → (i ≡ k) ⊎ Ordered Rule T i k → Becomes a

    from_trace : (k : ℕ) → WaitSource trace p d k → Below k
    from_trace k s i a st o = Stays ((later_set (Waits p d) live_d).full i a st record { source = k; is = s; ordered = o })

    from_step : (k : ℕ) → k ≡ length trace → GoesInto trace e p d → Below k
    from_step k q g i a st o = Itself g (pointed.full i a st record { source = k; is = q; ordered = o })

    -- what comes directly before a step of d that moves no line whole and delivers no signal
    direct : (k x : ℕ) (h : IsStepOf T k p d) → looks_beyond (take k T) h.event ≡ false → Edge Rule T x k → WaitSource T p d x
    direct k x h moves d' = by found
      where
        found : Found (LooksAt (take k T) h.event) (λ r. QueueSource (take k T) r x)
        found = queue_full T queued n orderly k h.event h.at x d'.below d'.rule

        inn : k < length T
        inn = slice_get_within T k h.event h.at

        m : MayStep (take k T) p d h.event.step h.event.effect.note
        m = may_at T queued k p d h

        exec_none : (q : ℕ) → h.event.step ≡ Exec q → ⊥
        exec_none q f = let g : false ≡ true = sym (ap (is_of p d) f) ∙ h.is in never g
          where
            never : false ≡ true → ⊥
            never y = cc

        begin : (r : Role) → Among (λ w. w ≡ r) (read_roles (take k T) h.event) → Source (take k T) r x → WaitSource T p d x
        begin r looks s =
            let f : Found (λ w. w ≡ r) (λ (w : Role). ⊥) = among_every (λ w. w ≡ r) (λ (w : Role). ⊥) (read_roles (take k T) h.event) looks (quiet_reads (take k T) p d h.event h.is m.quiet moves) in
            absurd f.second

        by_role : (r : QueueRole) → LooksAt (take k T) h.event r → QueueSource (take k T) r x → WaitSource T p d x
        by_role (Base r) looks s = begin r looks s
        by_role (Waits q c) looks s =
            let same = of_one p d q c h.event.step h.is looks in
            waits_more T queued k (let i : k < length T = inn in omega arith) p d x d'.below (subst₂ (λ y z. WaitSource (take k T) y z x) same.0 same.1 s)
        by_role (Complete q class) looks s = absurd looks
        by_role (Fixed q g) looks s = absurd (exec_none q looks.is)
        by_role (Stalled q g) looks s = absurd (exec_none q looks.is)

        by : Found (LooksAt (take k T) h.event) (λ r. QueueSource (take k T) r x) → WaitSource T p d x
        by f = by_role f.one f.first f.second

    own_plain : (k : ℕ) (h : IsStepOf T k p d) (s : Progress) → Has T p d s → (s.done ≡ true) ⊎ (elem_of h.event.step h.event.effect.note < elements_done s)
        → ((x : ℕ) → x < k → WaitSource T p d x → Below x) → looks_beyond (take k T) h.event ≡ false → Below k
    own_plain k h s has over rest moves i a st (inl same) =
        let q : st.event ≡ h.event = same_get (slice_get T k) st.event h.event (subst (λ x. slice_get T x ≡ Some st.event) same st.at) h.at in
        let w : a ≡ stamp n i h.event = subst (λ v. a ≡ stamp n i v) q st.is in
        let c = of_chain n p d h.event.step h.is in
        Own
        record {
          progress = s;
          has = has;
          chain = ap (λ (x : At). x.chain) w ∙ c.0;
          cmd = ap (λ (x : At). x.cmd) w ∙ c.1;
          over = by over (ap (λ (x : At). x.elem) w);
        }
      where
        by : (s.done ≡ true) ⊎ (elem_of h.event.step h.event.effect.note < elements_done s) → a.elem ≡ elem_of h.event.step h.event.effect.note → (s.done ≡ true) ⊎ (a.elem < elements_done s)
        by (inl x) f = inl x
        by (inr x) f = inr (omega arith)
    own_plain k h s has over rest moves i a st (inr (One d')) = rest i d'.below (direct k i h moves d') i a st (inl refl)
    own_plain k h s has over rest moves i a st (inr (Then {k = x} o d')) = rest x d'.below (direct k x h moves d') i a st (inr o)

    -- the step that moves the line of d or delivers its signal completes it, so that it is the last one
    own_line : (k : ℕ) (h : IsStepOf T k p d) → looks_beyond (take k T) h.event ≡ true → Below k
    own_line k h moves = by (place_of trace e k h.event h.at)
      where
        by : ((k < length trace) × (slice_get trace k ≡ Some h.event)) ⊎ ((k ≡ length trace) × (e ≡ h.event)) → Below k
        by (inl q) =
            let low : k < length trace = q.0 in
            let x : IsDone (take (suc k) T) p d = beyond_done T queued p d k h moves in
            let l : Later (take (length trace) T) p d x.progress = later_at T p d (suc k) (length trace) x.progress (omega arith) (let n : length T ≡ length trace + 1 = long in omega arith) x.has in
            absurd (both_ways _ (live_d l.progress (subst (λ t. Has t p d l.progress) front l.has)) (ap (λ (v : Progress). v.done) (l.frozen x.done) ∙ x.done))
        by (inr q) =
            from_step k q.0
            (inr
            (inr
            (inr record {
              is = subst (λ (v : Event). is_of p d v.step ≡ true) (sym q.1) h.is;
              moves = subst₂ (λ t (v : Event). looks_beyond t v ≡ true) (subst (λ x. take x T ≡ trace) (sym q.0) front) (sym q.1) moves;
            })))

    own_at : (k : ℕ) (h : IsStepOf T k p d) (s : Progress) → Has T p d s → (s.done ≡ true) ⊎ (elem_of h.event.step h.event.effect.note < elements_done s)
        → ((x : ℕ) → x < k → WaitSource T p d x → Below x) → Below k
    own_at k h s has over rest = by (looks_beyond (take k T) h.event) refl
      where
        by : (b : Bool) → looks_beyond (take k T) h.event ≡ b → Below k
        by true q = own_line k h q
        by false q = own_plain k h s has over rest q

    -- an earlier command that was complete before a command that was issued before
    earlier_old : (k c : ℕ) (b : Before T p c d) (s t : Progress) → Has trace p c s → s.done ≡ true → s.command ≡ b.first.command → Has trace p d t → t.command ≡ b.second.command → IsPartOf T k p c → Below k
    earlier_old k c b s t hs done es ht et part =
        from_trace k
        (Earlier c record { lower = b.lower; first = s; second = t; first_is = hs; second_is = ht; goes = subst₂ (λ (x y : Command). precedes x y ≡ true) (sym es) (sym et) b.goes } done (part_front p c k s hs done part))

    -- one that is complete now
    earlier_new : (k c : ℕ) (b : Before T p c d) → b.first.done ≡ true → (s : Progress) → Has trace p c s → s.done ≡ false → IsPartOf T k p c → Below k
    earlier_new k c b done s hs live part i a st o =
        let now : IsComplete T p c b.first = record { has = b.first_is; done = done } in
        let x : Completes trace e p c =
        record { progress = b.first; now = now; before = λ t h. subst (λ (v : Progress). v.done ≡ false) (same_progress trace p c s t hs h) live } in
        FromEarlier c x b ((ih c b.lower x.before).full i a st record { source = k; is = part_waits T queued n orderly p c b.first now k part; ordered = o })

    -- one that was complete when the command is issued
    earlier_issue : (k c : ℕ) (b : Before T p c d) (s : Progress) → IssuesNow e p d b.second.command → Has trace p c s → s.done ≡ true → s.command ≡ b.first.command → IsPartOf T k p c → Below k
    earlier_issue k c b s h hs done es part i a st o =
        let g = goes_ahead s.command b.second.command (subst (λ x. precedes x b.second.command ≡ true) (sym es) b.goes) in
        AtIssue b.second.command g.0 h g.1
        ((later_set (Complete p g.0) tt).full i a st
        record { source = k; is = record { command = c; progress = s; complete = record { has = hs; done = done }; of = g.2; part = part_front p c k s hs done part }; ordered = o })

    earlier_full : (k c : ℕ) (b : Before T p c d) → b.first.done ≡ true → IsPartOf T k p c → Below k
    earlier_full k c b done part = by (came trace e p d b.second b.second_is) (came trace e p c b.first b.first_is)
      where
        never : false ≡ true → ⊥
        never y = cc

        clash : (o : Option Progress) (t : Progress) → o ≡ None → o ≡ Some t → ⊥
        clash o t x y = cc

        issue_of : (u v : Note) → u ≡ Issue d b.second.command → u ≡ Issue c b.first.command → d ≡ c
        issue_of u v f g = cc

        live_before : (t : Progress) → Has trace p d t → e.step ≡ Exec p → e.effect.note ≡ Issue c b.first.command → ⊥
        live_before t h f g = let low : c < d = b.lower in clash (status p d trace) t ((may.issue p c b.first.command f g).0.above d (omega arith)) h.is

        by : Came trace e p d b.second → Came trace e p c b.first → Below k
        by (Newly x f g z) (Newly x' f' g' z') = let q : d ≡ c = issue_of e.effect.note e.effect.note g g' in let low : c < d = b.lower in absurd (omega arith)
        by (Newly x f g z) (Kept s h dn same) = earlier_issue k c b s record { is = f; notes = g } h dn (ap (λ (v : Progress). v.command) (sym same)) part
        by (Newly x f g z) (Moved s h live same stp) =
            let q : b.first ≡ s = same ∙ (ap₂ (λ v w. stepped p c s v w) f g ∙ stepped_issue p c p d b.second.command s) in
            absurd (never (sym live ∙ ap (λ (v : Progress). v.done) (sym q) ∙ done))
        by (Kept t ht dt st) (Newly x' f' g' z') = absurd (live_before t ht f' g')
        by (Kept t ht dt st) (Kept s h dn same) = earlier_old k c b s t h dn (ap (λ (v : Progress). v.command) (sym same)) ht (ap (λ (v : Progress). v.command) (sym st)) part
        by (Kept t ht dt st) (Moved s h live same stp) = earlier_new k c b done s h live part
        by (Moved t ht dt st sp) (Newly x' f' g' z') = absurd (live_before t ht f' g')
        by (Moved t ht dt st sp) (Kept s h dn same) = earlier_old k c b s t h dn (ap (λ (v : Progress). v.command) (sym same)) ht (sym sp.grows.command) part
        by (Moved t ht dt st sp) (Moved s h live same stp) = earlier_new k c b done s h live part

    wait_step : (k : ℕ) → ((x : ℕ) → x < k → WaitSource T p d x → Below x) → WaitSource T p d k → Below k
    wait_step k rest (Begun command h) = by (place_of trace e k h.event h.at)
      where
        by : ((k < length trace) × (slice_get trace k ≡ Some h.event)) ⊎ ((k ≡ length trace) × (e ≡ h.event)) → Below k
        by (inl q) = from_trace k (Begun command record { event = h.event; at = q.1; is = h.is; notes = h.notes })
        by (inr q) = from_step k q.0 (inl (command, record { is = subst (λ (v : Event). v.step ≡ Exec p) (sym q.1) h.is; notes = subst (λ (v : Event). v.effect.note ≡ Issue d command) (sym q.1) h.notes }))
    wait_step k rest (Earlier c b done part) = earlier_full k c b done part
    wait_step k rest (Acked r) = by (place_of trace e k r.acknowledges.event r.acknowledges.at)
      where
        by : ((k < length trace) × (slice_get trace k ≡ Some r.acknowledges.event)) ⊎ ((k ≡ length trace) × (e ≡ r.acknowledges.event)) → Below k
        by (inl q) =
            from_trace k
            (Acked record { progress = r.progress; has = subst (λ t. Has t p d r.progress) (take_front trace e k (let l : k < length trace = q.0 in omega arith)) r.has; stalled = r.stalled; acknowledges = record { event = r.acknowledges.event; at = q.1; is = r.acknowledges.is; notes = r.acknowledges.notes } })
        by (inr q) =
            from_step k q.0
            (inr
            (inr
            (inl record {
              progress = r.progress;
              has = subst (λ t. Has t p d r.progress) front (subst (λ x. Has (take x T) p d r.progress) q.0 r.has);
              stalled = r.stalled;
              is = subst (λ (v : Event). v.step ≡ Exec p) (sym q.1) r.acknowledges.is;
              notes = subst (λ (v : Event). v.effect.note ≡ Ack r.progress.command.tag) (sym q.1) r.acknowledges.notes;
            })))
    wait_step k rest (Read h) = by (place_of trace e k h.event h.at)
      where
        by : ((k < length trace) × (slice_get trace k ≡ Some h.event)) ⊎ ((k ≡ length trace) × (e ≡ h.event)) → Below k
        by (inl q) = from_trace k (Read record { event = h.event; at = q.1; is = h.is })
        by (inr q) = from_step k q.0 (inr (inl (subst (λ (v : Event). v.step ≡ Elem p d) (sym q.1) h.is)))
    wait_step k rest (Part s h x) = own_at k x.step s h (inr x.low) rest
    wait_step k rest (Whole s h st) = own_at k st s h.has (inl h.done) rest

    wait_below : (b k : ℕ) → k < b → WaitSource T p d k → Below k
    wait_below zero k low w = absurd (omega arith)
    wait_below (suc b) k low w = wait_step k (λ x less v. wait_below b x (omega arith) v) w

    waits_one : HoldsWaits p d
    waits_one =
        record {
          inside = wait_inside p d;
          sound = λ i a st t. wait_past i a st ((nx.waits p d a live_d).0 t);
          full = λ i a st x. (nx.waits p d a live_d).1 (wait_below (x.source + 1) x.source (omega arith) x.is i a st x.ordered);
          old = λ a t. wait_old a ((nx.waits p d a live_d).0 t);
        }

  waits_below : (b p d : ℕ) → d < b → IsKept trace (Waits p d) → HoldsWaits p d
  waits_below zero p d low live = absurd (omega arith)
  waits_below (suc b) p d low live = waits_one p d live (λ c less l. waits_below b p c (omega arith) l)

  -- after the step the set of what waits for a command that wasn't complete is the past of its sources
  pub waits_kept : (p d : ℕ) → IsKept trace (Waits p d) → Holds Rule n (IsPast n) T (next (Waits p d)) (WaitSource T p d)
  waits_kept p d live = waits_below (d + 1) p d (omega arith) live
