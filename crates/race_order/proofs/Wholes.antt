-- What a complete command, and a list that has just stalled, are the past of.
use Rattle.std.proofs.Common.{◌≡◌, ℕ, ◌<◌, ◌≤◌, true, length, take, Option, Some, None, ◌⊎◌, inl, inr, refl, sym, ap, ◌∙◌, subst, subst₂, arith}
use Rattle.std.proofs.lemmas.Bool.{cases_lt}
use Rattle.std.proofs.lemmas.List.{take_all}
use Rattle.std.proofs.lemmas.Option.{slice_get_within}
use Rattle.cell_base.specs.declared.steps.Step.TheVariants.{Exec, Elem}
use Rattle.mfc_command.specs.declared.command.Command.{Command}
use Rattle.cell_machine.specs.declared.effect.Note.TheVariants.{Issue}
use Rattle.mfc_command.specs.Order.{precedes}
use Rattle.race_order.specs.Trace.{Trace, IsStep, IsStepOf, IssuesAt}
use Rattle.race_order.specs.declared.progress.Progress.{Progress}
use Rattle.race_order.specs.Status.{status, elements_done}
use Rattle.race_order.specs.Queue.{Has, Before}
use Rattle.race_order.specs.Rules.{Ordered}
use Rattle.race_order.specs.StatusRules.{Rule}
use Rattle.race_order.specs.Stamps.{elem_of}
use Rattle.race_order.specs.Orderly.{IsOrderly}
use Rattle.race_order.specs.Pasts.{Past}
use Rattle.race_order.proofs.LookedAt.{step_there, notes_here, notes_there}
use Rattle.race_order.proofs.Histories.{same_progress, Later, later_at, stepped_there, issued_there}
use Rattle.race_order.proofs.Elements.{may_at, step_of}
use Rattle.race_order.proofs.Queues.{of_here, of_there, resumes_here, resumes_there, no_step_after, no_resume_after, wait_sound}
use Rattle.race_order.specs.Premises.{MayStep, IsQueued}
use Rattle.race_order.specs.Sources.{WaitSource, Begun, Earlier, Acked, Read, Part, Whole, IsComplete, IsPartOf}

module _ (T : Trace) (queued : IsQueued T) (n : ℕ) (orderly : IsOrderly n T) where
  whole_trace : take (length T) T ≡ T
  whole_trace = take_all (length T) T (omega arith)

  pub has_whole : (p c : ℕ) (s : Progress) → Has T p c s → Has (take (length T) T) p c s
  has_whole p c s h = subst (λ t. Has t p c s) (sym whole_trace) h

  pub at_whole : (p c i : ℕ) (s : Progress) → i ≤ length T → Has (take i T) p c s → Later T p c s
  at_whole p c i s low h = subst (λ t. Later t p c s) whole_trace (later_at T p c i (length T) s low (omega arith) h)

  -- a command is issued before each of its steps
  pub issue_low : (p d k x : ℕ) (command : Command) → IssuesAt T k p d command → IsStepOf T x p d → k < x
  issue_low p d k x command h st = by (cases_lt k x)
    where
      by : (k < x) ⊎ (x ≤ k) → k < x
      by (inl low) = low
      by (inr high) =
          let inn : k < length T = slice_get_within T k h.event h.at in
          let m : MayStep (take x T) p d st.event.step st.event.effect.note = may_at T queued x p d st in
          let l : Later (take k T) p d m.progress = later_at T p d x k m.progress high (omega arith) m.has in
          let f : status p d (take k T) ≡ None = ((queued k h.event h.at).issue p d command h.is h.notes).0.above d (omega arith) in
          absurd (clash (status p d (take k T)) l.progress f l.has.is)
        where
          clash : (o : Option Progress) (t : Progress) → o ≡ None → o ≡ Some t → ⊥
          clash o t x y = cc

  -- an earlier command was issued before a step of a later one
  pub earlier_has : (p c d x : ℕ) → c < d → IsStepOf T x p d → (s : Progress) × Has (take x T) p c s
  earlier_has p c d x low st =
      let inn : x < length T = slice_get_within T x st.event st.at in
      let m : MayStep (take x T) p d st.event.step st.event.effect.note = may_at T queued x p d st in
      let y = issued_there T p d x m.progress (omega arith) m.has in
      let yl : y.0 < x = y.1 in
      let b : (s : Progress) × Has (take y.0 T) p c s = ((queued y.0 y.2.event y.2.at).issue p d m.progress.command y.2.is y.2.notes).0.below c low in
      let l : Later (take x T) p c b.0 = later_at T p c y.0 x b.0 (omega arith) (omega arith) b.1 in
      (l.progress, l.has)

  -- what a complete earlier command is part of, and the issue, come before each step of the command
  pub before_step : (p d k x : ℕ) (st : IsStepOf T x p d) → ((command : Command) × IssuesAt T k p d command) ⊎ ((c : ℕ) × (b : Before T p c d) × (b.first.done ≡ true) × IsPartOf T k p c) → Ordered Rule T k x
  before_step p d k x st (inl h) =
      let low : k < x = issue_low p d k x h.0 h.1 st in
      wait_sound T queued n orderly x st.event st.at p d st.is k (Begun h.0 (notes_here T k x (Exec p) (Issue d h.0) low h.1))
  before_step p d k x st (inr h) =
      wait_sound T queued n orderly x st.event st.at p d st.is k
      (Earlier h.0 record { lower = h.1.lower; first = e.0; second = m.progress; first_is = e.1; second_is = m.has; goes = goes } done (part h.3))
    where
      inn : x < length T
      inn = slice_get_within T x st.event st.at

      m : MayStep (take x T) p d st.event.step st.event.effect.note
      m = may_at T queued x p d st

      e : (s : Progress) × Has (take x T) p h.0 s
      e = earlier_has p h.0 d x h.1.lower st

      first : Later T p h.0 e.0
      first = let i : x < length T = inn in at_whole p h.0 x e.0 (omega arith) e.1

      second : Later T p d m.progress
      second = let i : x < length T = inn in at_whole p d x m.progress (omega arith) m.has

      goes : precedes e.0.command m.progress.command ≡ true
      goes =
          subst₂ (λ (x y : Command). precedes x y ≡ true) (ap (λ (v : Progress). v.command) (same_progress T p h.0 h.1.first first.progress h.1.first_is first.has) ∙ first.grows.command)
          (ap (λ (v : Progress). v.command) (same_progress T p d h.1.second second.progress h.1.second_is second.has) ∙ second.grows.command) h.1.goes

      done : e.0.done ≡ true
      done = m.first h.0 e.0 h.1.lower e.1 goes

      part : IsPartOf T k p h.0 → IsPartOf (take x T) k p h.0
      part (inl a) = inl (of_here T k x p h.0 (no_step_after T queued k x p h.0 e.0 e.1 done a) a)
      part (inr a) = inr (resumes_here T k x p h.0 (no_resume_after T queued k x p h.0 e.0 e.1 done a) a)

  read_of : (k p d : ℕ) → IsStep T k (Elem p d) → IsStepOf T k p d
  read_of k p d h = step_of T queued k p d h

  -- a complete command: its parts and what waits for it have one past
  pub complete_waits : (p d : ℕ) (s : Progress) → IsComplete T p d s → (k : ℕ) → WaitSource T p d k → Past Rule T (λ x. IsPartOf T x p d) k
  complete_waits p d s c k w = at (stepped_there T p d (length T) s (omega arith) (has_whole p d s c.has) c.done) w
    where
      at : (x : ℕ) × (x < length T) × IsStepOf T x p d → WaitSource T p d k → Past Rule T (λ x. IsPartOf T x p d) k
      at x (Begun command h) = record { source = x.0; is = inl x.2; ordered = inr (before_step p d k x.0 x.2 (inl (command, h))) }
      at x (Earlier c2 b done part) = record { source = x.0; is = inl x.2; ordered = inr (before_step p d k x.0 x.2 (inr (c2, b, done, part))) }
      at x (Acked r) = record { source = k; is = inr r; ordered = inl refl }
      at x (Read h) = record { source = k; is = inl (read_of k p d h); ordered = inl refl }
      at x (Part t h b) = record { source = k; is = inl b.step; ordered = inl refl }
      at x (Whole t h st) = record { source = k; is = inl st; ordered = inl refl }

  pub part_waits : (p d : ℕ) (s : Progress) → IsComplete T p d s → (k : ℕ) → IsPartOf T k p d → WaitSource T p d k
  part_waits p d s c k (inl st) = Whole s c st
  part_waits p d s c k (inr r) = Acked r

-- more sources with more steps
module _ (T : Trace) (queued : IsQueued T) (b : ℕ) (inside : b ≤ length T) where
  has_more : (p c : ℕ) (s : Progress) → Has (take b T) p c s → Later T p c s
  has_more p c s h = subst (λ t. Later t p c s) (take_all (length T) T (omega arith)) (later_at T p c b (length T) s inside (omega arith) h)

  pub part_more : (k p c : ℕ) → k < b → IsPartOf (take b T) k p c → IsPartOf T k p c
  part_more k p c low (inl x) = inl (of_there T k b p c low x)
  part_more k p c low (inr x) = inr (resumes_there T k b p c low x)

  pub before_more : (p c d : ℕ) (x : Before (take b T) p c d) → x.first.done ≡ true → (y : Before T p c d) × (y.first.done ≡ true)
  before_more p c d x done =
      let f : Later T p c x.first = has_more p c x.first x.first_is in
      let g : Later T p d x.second = has_more p d x.second x.second_is in (
        record { lower = x.lower; first = f.progress; second = g.progress; first_is = f.has; second_is = g.has; goes = subst₂ (λ (x y : Command). precedes x y ≡ true) (sym f.grows.command) (sym g.grows.command) x.goes },
        ap (λ (v : Progress). v.done) (f.frozen done) ∙ done,
      )

  pub waits_more : (p d k : ℕ) → k < b → WaitSource (take b T) p d k → WaitSource T p d k
  waits_more p d k low (Begun command h) = Begun command (notes_there T k b (Exec p) (Issue d command) low h)
  waits_more p d k low (Earlier c x done part) = let y = before_more p c d x done in Earlier c y.0 y.1 (part_more k p c low part)
  waits_more p d k low (Acked r) = Acked (resumes_there T k b p d low r)
  waits_more p d k low (Read h) = Read (step_there T k b (Elem p d) low h)
  waits_more p d k low (Part s h x) =
      let l : Later T p d s = has_more p d s h in
      let g : elements_done s ≤ elements_done l.progress = l.grows.done in
      let e : elem_of x.step.event.step x.step.event.effect.note < elements_done s = x.low in
      Part l.progress l.has record { step = of_there T k b p d low x.step; low = omega arith }
  waits_more p d k low (Whole s c st) =
      let l : Later T p d s = has_more p d s c.has in
      Whole l.progress record { has = l.has; done = ap (λ (v : Progress). v.done) (l.frozen c.done) ∙ c.done } (of_there T k b p d low st)
