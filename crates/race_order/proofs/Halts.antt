-- What a list that has just stalled is the past of.
use Rattle.std.proofs.Common.{◌≡◌, ℕ, ◌+◌, ◌-◌, ◌<◌, ◌≤◌, ◌==◌, true, false, length, take, ◌⊎◌, inl, inr, refl, sym, ap, ap₂, ◌∙◌, subst, arith}
use Rattle.std.proofs.lemmas.Bool.{cases_order, cases_lt, cases_eq, eqb-true, and_parts, both_ways}
use Rattle.std.proofs.lemmas.Option.{slice_get_within}
use Rattle.cell_base.specs.declared.steps.Step.{Step}
use Rattle.cell_base.specs.declared.steps.Step.TheVariants.{Exec, Piece, Elem, Retire, Atomic, Host}
use Rattle.cell_machine.specs.declared.effect.Note.TheVariants.{Ack}
use Rattle.race_order.specs.Trace.{Trace, IsStep, is_of}
use Rattle.race_order.specs.declared.progress.Progress.{Progress}
use Rattle.race_order.specs.Status.{elements_done}
use Rattle.race_order.specs.Queue.{Has, ReadsElement, IsStepOfElement, IsStalled, Resumes}
use Rattle.race_order.specs.StatusRules.{Rule}
use Rattle.race_order.specs.Stamps.{elem_of}
use Rattle.race_order.specs.Orderly.{IsOrderly}
use Rattle.race_order.specs.Pasts.{Past}
use Rattle.race_order.proofs.LookedAt.{same_step, notes_step}
use Rattle.race_order.proofs.Statuses.{done_all}
use Rattle.race_order.proofs.Histories.{same_progress, Later, later_at, read_there, valid_at}
use Rattle.race_order.proofs.Elements.{may_at, step_of, piece_of, AtPiece, at_piece, after_read, piece_list, element_chain, of_itself}
use Rattle.race_order.proofs.Queues.{resumes_here, after_retire, wait_sound}
use Rattle.race_order.proofs.PastLaws.{left_some}
use Rattle.race_order.proofs.Wholes.{has_whole, before_step}
use Rattle.race_order.specs.Premises.{MayStep, IsQueued}
use Rattle.race_order.specs.Sources.{WaitSource, Begun, Earlier, Acked, Read, Part, Whole}

module _ (T : Trace) (queued : IsQueued T) (n : ℕ) (orderly : IsOrderly n T) where
  -- after a list has stalled no step of its element comes
  pub no_element_after : (b k p c m : ℕ) → b ≤ length T → IsStalled T b p c m → IsStepOfElement T k p c m → k < b
  no_element_after b k p c m inside h st = by (cases_lt k b) st
    where
      left : h.progress.left ≡ 0
      left = (valid_at (take b T) p c h.progress h.has).rest h.stalled

      done : elements_done h.progress ≡ h.progress.read
      done = done_all h.progress left

      by : (k < b) ⊎ (b ≤ k) → IsStepOfElement T k p c m → k < b
      by (inl low) st = low
      by (inr high) (inl r) =
          let w : k < length T = slice_get_within T k r.step.event r.step.at in
          let l : Later (take k T) p c h.progress = later_at T p c b k h.progress high (omega arith) h.has in
          let q : l.progress.read ≡ r.progress.read = ap (λ (v : Progress). v.read) (same_progress (take k T) p c l.progress r.progress l.has r.has) in
          let g : h.progress.read ≤ l.progress.read = l.grows.read in
          let x : h.progress.read ≡ m + 1 = h.number in
          let y : r.progress.read ≡ m = r.number in
          absurd (omega arith)
      by (inr high) (inr q) =
          let w : k < length T = slice_get_within T k q.1.event q.1.at in
          let a : AtPiece T queued k p c m = at_piece T queued k p c m q.0 q.1 in
          let num : h.progress.read ≡ m + 1 = h.number in
          let z : (x : ℕ) × (x < b) × ReadsElement T x p c 0 = read_there T p c b h.progress 0 inside h.has (omega arith) in
          let f = piece_list T queued k p c m q.0 z.0 0 q.1 z.2 a in
          let l : Later (take k T) p c h.progress = later_at T p c b k h.progress high (omega arith) h.has in
          let same : l.progress ≡ a.progress = same_progress (take k T) p c l.progress a.progress l.has a.has in
          let e : elements_done l.progress ≡ elements_done a.progress = ap elements_done same in
          let g : elements_done h.progress ≤ elements_done l.progress = l.grows.done in
          let d : elements_done h.progress ≡ h.progress.read = done in
          let u : elements_done a.progress ≡ a.progress.read - 1 = left_some a.progress a.left in
          let v : m + 1 ≡ a.progress.read = f.1 in
          absurd (omega arith)

  -- a step of the element that was read last, or of an earlier one
  pub stalled_waits : (p c m : ℕ) (s : Progress) → Has T p c s → s.stalled ≡ true → s.read ≡ m + 1 → ((k : ℕ) (r : Resumes T k p c) → r.progress.read ≤ m) → (k : ℕ) → WaitSource T p c k → Past Rule T (λ x. IsStepOfElement T x p c m) k
  stalled_waits p c m s has stalled number fresh k w = at (read_there T p c (length T) s m (omega arith) (has_whole T queued n orderly p c s has) (omega arith)) w
    where
      left : s.left ≡ 0
      left = (valid_at T p c s has).rest stalled

      done : elements_done s ≡ s.read
      done = done_all s left

      dead : s.done ≡ true → ⊥
      dead d = both_ways _ ((valid_at T p c s has).calm d) stalled

      element : (y : ℕ) → ReadsElement T y p c m → (l : ℕ) → l < m + 1 → IsStepOfElement T k p c l → Past Rule T (λ x. IsStepOfElement T x p c m) k
      element y r l low st = by (cases_eq l m)
        where
          by : (l ≡ m) ⊎ (l ≡ m → ⊥) → Past Rule T (λ x. IsStepOfElement T x p c m) k
          by (inl q) = record { source = k; is = subst (IsStepOfElement T k p c) q st; ordered = inl refl }
          by (inr q) = record { source = y; is = inl r; ordered = inr (element_chain T queued (m - (l + 1)) p c l k m y (omega arith) st r) }

      reads : (y : ℕ) → ReadsElement T y p c m → IsStep T k (Elem p c) → Past Rule T (λ x. IsStepOfElement T x p c m) k
      reads y r h =
          let inn : k < length T = slice_get_within T k h.event h.at in
          let may : MayStep (take k T) p c h.event.step h.event.effect.note = may_at T queued k p c (step_of T queued k p c h) in
          let st : ReadsElement T k p c may.progress.read = record { step = h; progress = may.progress; has = may.has; number = refl } in
          let f = after_read T queued k p c may.progress.read (length T) s st inn (omega arith) (has_whole T queued n orderly p c s has) in
          let g : may.progress.read + 1 ≤ s.read = f.0 in
          element y r may.progress.read (omega arith) (inl st)

      at : (y : ℕ) × (y < length T) × ReadsElement T y p c m → WaitSource T p c k → Past Rule T (λ x. IsStepOfElement T x p c m) k
      at y (Begun command h) = record { source = y.0; is = inl y.2; ordered = inr (before_step T queued n orderly p c k y.0 (step_of T queued y.0 p c y.2.step) (inl (command, h))) }
      at y (Earlier c2 b d part) = record { source = y.0; is = inl y.2; ordered = inr (before_step T queued n orderly p c k y.0 (step_of T queued y.0 p c y.2.step) (inr (c2, b, d, part))) }
      at y (Acked r) = record { source = y.0; is = inl y.2; ordered = inr (wait_sound T queued n orderly y.0 y.2.step.event y.2.step.at p c (ap (is_of p c) y.2.step.is ∙ of_itself p c) k (Acked (resumes_here T k y.0 p c low r))) }
        where
          low : k < y.0
          low = by (cases_order k y.0)
            where
              by : (k ≡ y.0) ⊎ ((k < y.0) ⊎ (y.0 < k)) → k < y.0
              by (inl q) =
                  let f : Exec p ≡ Elem p c = same_step T k (Exec p) (Elem p c) (notes_step T k (Exec p) (Ack r.progress.command.tag) r.acknowledges) (subst (λ x. IsStep T x (Elem p c)) (sym q) y.2.step) in
                  absurd cc
              by (inr (inl l)) = l
              by (inr (inr g)) =
                  let inn : k < length T = slice_get_within T k r.acknowledges.event r.acknowledges.at in
                  let f = after_read T queued y.0 p c m k r.progress y.2 g (omega arith) r.has in
                  let z : m + 1 ≤ r.progress.read = f.0 in
                  let u : r.progress.read ≤ m = fresh k r in
                  absurd (omega arith)
      at y (Read h) = reads y.0 y.2 h
      at y (Part t ht x) = by x.step.event.step refl
        where
          same : t ≡ s
          same = same_progress T p c t s ht has

          low : elem_of x.step.event.step x.step.event.effect.note < m + 1
          low = let d : elements_done s ≡ s.read = done in let g : elem_of x.step.event.step x.step.event.effect.note < elements_done s = subst (λ v. elem_of x.step.event.step x.step.event.effect.note < elements_done v) same x.low in omega arith

          is : (v : Step) → x.step.event.step ≡ v → IsStep T k v
          is v q = record { event = x.step.event; at = x.step.at; is = q }

          never : (v : Step) → x.step.event.step ≡ v → is_of p c v ≡ true
          never v q = sym (ap (is_of p c) q) ∙ x.step.is

          by : (v : Step) → x.step.event.step ≡ v → Past Rule T (λ x. IsStepOfElement T x p c m) k
          by (Exec q) f = let g : false ≡ true = never (Exec q) f in absurd cc
          by (Atomic q) f = let g : false ≡ true = never (Atomic q) f in absurd cc
          by Host f = let g : false ≡ true = never Host f in absurd cc
          by (Retire q d) f =
              let a = and_parts (q == p) (d == c) (never (Retire q d) f) in
              let inn : k < length T = slice_get_within T k x.step.event x.step.at in
              absurd (dead (after_retire T queued k (length T) p c s (is (Retire p c) (f ∙ ap₂ Retire (eqb-true q p a.0) (eqb-true d c a.1))) inn (omega arith) (has_whole T queued n orderly p c s has)))
          by (Elem q d) f = let a = and_parts (q == p) (d == c) (never (Elem q d) f) in reads y.0 y.2 (is (Elem p c) (f ∙ ap₂ Elem (eqb-true q p a.0) (eqb-true d c a.1)))
          by (Piece q d l j) f =
              let a = and_parts (q == p) (d == c) (never (Piece q d l j) f) in
              element y.0 y.2 l (subst (λ v. elem_of v x.step.event.effect.note < m + 1) f low) (inr (j, is (Piece p c l j) (f ∙ ap₂ (λ v w. Piece v w l j) (eqb-true q p a.0) (eqb-true d c a.1))))
      at y (Whole t ht st) = absurd (dead (ap (λ (v : Progress). v.done) (sym (same_progress T p c t s ht.has has)) ∙ ht.done))

  pub element_waits : (p c m k : ℕ) (s : Progress) → Has T p c s → s.stalled ≡ true → s.read ≡ m + 1 → IsStepOfElement T k p c m → WaitSource T p c k
  element_waits p c m k s has stalled number (inl r) = Read r.step
  element_waits p c m k s has stalled number (inr q) =
      let d : elements_done s ≡ s.read = done_all s ((valid_at T p c s has).rest stalled) in
      Part s has record { step = piece_of T queued k p c m q.0 q.1; low = subst (λ v. elem_of v q.1.event.effect.note < elements_done s) (sym q.1.is) (let z : m < elements_done s = omega arith in z) }
