-- A step changes only what it touches.
use Rattle.std.proofs.Common.{◌≡◌, ℕ, ◌==◌, Bool, true, false, ◌&&◌, [], ◌∷◌, ◌++◌, ◌⊎◌, inl, inr, refl, sym, ap, ◌∙◌, subst}
use Rattle.std.specs.Prelude.{if◌then◌else◌}
use Rattle.std.proofs.lemmas.Bool.{eqb-true, and_parts, both_ways}
use Rattle.order_sets.specs.declared.facts.At.{At}
use Rattle.cell_base.specs.declared.steps.Step.{Step}
use Rattle.cell_base.specs.declared.steps.Step.TheVariants.{Exec, Piece, Elem, Retire, Atomic, Host}
use Rattle.cell_machine.specs.declared.effect.Note.{Note}
use Rattle.cell_machine.specs.declared.effect.Note.TheVariants.{Ack}
use Rattle.race_order.specs.Trace.{Event, Trace, is_of}
use Rattle.race_order.specs.declared.progress.Progress.{Progress}
use Rattle.race_order.specs.Status.{stepped, after_ack, after_piece, after_element, is_by, is_last}
use Rattle.race_order.specs.Queue.{Has}
use Rattle.race_order.proofs.Histories.{Came, Newly, Kept, Moved, came}
use Rattle.race_order.specs.declared.roles.Class.{Class}
use Rattle.race_order.specs.declared.roles.QueueRole.{QueueRole}
use Rattle.race_order.specs.declared.roles.QueueRole.TheVariants.{Waits}
use Rattle.race_order.specs.Sources.{IsKept, HaveOwn}
use Rattle.race_order.proofs.Nexts.{Completes, Stalls, WaitsNext, CompleteNext, FixedNext, StalledNext, AreNext}
use Rattle.race_order.proofs.Nexts as Next
use Rattle.race_order.proofs.Local.{Touches, WaitsLocal, CompleteLocal, FixedLocal, StalledLocal, AreLocal}
use Rattle.race_order.proofs.Local as Local

module _ (trace : Trace) (e : Event) where
  acked : (p c : ℕ) (s : Progress) → Has trace p c s → e.step ≡ Exec p → (note : Note) → e.effect.note ≡ note → Touches trace e p c ⊎ (after_ack s note ≡ s)
  acked p c s h q (Ack tag) f = by (s.stalled && (tag == s.command.tag)) refl
    where
      by : (b : Bool) → (s.stalled && (tag == s.command.tag)) ≡ b → Touches trace e p c ⊎ ((if b then record s { stalled = false; done = is_last s } else s) ≡ s)
      by true x = let a = and_parts s.stalled (tag == s.command.tag) x in inl (inr (inr record { progress = s; has = h; stalled = a.0; is = q; notes = f ∙ ap Ack (eqb-true tag s.command.tag a.1) }))
      by false x = inr refl
  acked p c s h q _ f = inr refl

  moved : (p c : ℕ) (s : Progress) → Has trace p c s → (step : Step) → e.step ≡ step → Touches trace e p c ⊎ (stepped p c s step e.effect.note ≡ s)
  moved p c s h (Exec q) f = by (q == p) refl
    where
      by : (b : Bool) → (q == p) ≡ b → Touches trace e p c ⊎ ((if b then after_ack s e.effect.note else s) ≡ s)
      by true x = acked p c s h (f ∙ ap Exec (eqb-true q p x)) e.effect.note refl
      by false x = inr refl
  moved p c s h (Piece q d l k) f = by (is_by p c q d) refl
    where
      by : (b : Bool) → is_by p c q d ≡ b → Touches trace e p c ⊎ ((if b then after_piece s else s) ≡ s)
      by true x = inl (inl (ap (is_of p c) f ∙ x))
      by false x = inr refl
  moved p c s h (Elem q d) f = by (is_by p c q d) refl
    where
      by : (b : Bool) → is_by p c q d ≡ b → Touches trace e p c ⊎ ((if b then after_element s e.effect.note else s) ≡ s)
      by true x = inl (inl (ap (is_of p c) f ∙ x))
      by false x = inr refl
  moved p c s h (Retire q d) f = by (is_by p c q d) refl
    where
      by : (b : Bool) → is_by p c q d ≡ b → Touches trace e p c ⊎ ((if b then record s { stalled = false; done = true } else s) ≡ s)
      by true x = inl (inl (ap (is_of p c) f ∙ x))
      by false x = inr refl
  moved p c s h (Atomic q) f = inr refl
  moved p c s h Host f = inr refl

  -- a command that the step doesn't touch is as before
  pub touched_or_same : (p c : ℕ) (t : Progress) → Has (trace ++ (e ∷ [])) p c t → Touches trace e p c ⊎ Has trace p c t
  touched_or_same p c t h = by (came trace e p c t h)
    where
      by : Came trace e p c t → Touches trace e p c ⊎ Has trace p c t
      by (Newly x f g z) = inl (inr (inl (t.command, record { is = f; notes = g })))
      by (Kept s hs d same) = inr (subst (Has trace p c) (sym same) hs)
      by (Moved s hs live f st) = which (moved p c s hs e.step refl)
        where
          which : Touches trace e p c ⊎ (stepped p c s e.step e.effect.note ≡ s) → Touches trace e p c ⊎ Has trace p c t
          which (inl x) = inl x
          which (inr x) = inr (subst (Has trace p c) (sym (f ∙ x)) hs)

  pub completes_touched : (p c : ℕ) → Completes trace e p c → Touches trace e p c
  completes_touched p c x = by (touched_or_same p c x.progress x.now.has)
    where
      by : Touches trace e p c ⊎ Has trace p c x.progress → Touches trace e p c
      by (inl y) = y
      by (inr y) = absurd (both_ways _ (x.before x.progress y) x.now.done)

  pub stalls_touched : (p c : ℕ) → Stalls trace e p c → Touches trace e p c
  stalls_touched p c x = by (touched_or_same p c x.progress x.has)
    where
      by : Touches trace e p c ⊎ Has trace p c x.progress → Touches trace e p c
      by (inl y) = y
      by (inr y) = absurd (both_ways _ (x.before x.progress y) x.stalled)

  module _ (n : ℕ) (sets next : QueueRole → At → Bool) (brought : At → Bool) (have : HaveOwn n sets trace) (nx : AreLocal n sets next trace e brought) where
    waits_to : (p d : ℕ) (a : At) → WaitsLocal n sets next trace e brought p d a → WaitsNext n sets next trace e brought p d a
    waits_to p d a (Local.Stays t) = Next.Stays t
    waits_to p d a (Local.Itself g t) = Next.Itself g t
    waits_to p d a (Local.AtIssue command class h ahead t) = Next.AtIssue command class h ahead t
    waits_to p d a (Local.FromEarlier c y x b t) = Next.FromEarlier c x b t
    waits_to p d a (Local.Own y o) = Next.Own o

    waits_from : (p d : ℕ) (a : At) → IsKept trace (Waits p d) → WaitsNext n sets next trace e brought p d a → WaitsLocal n sets next trace e brought p d a
    waits_from p d a kept (Next.Stays t) = Local.Stays t
    waits_from p d a kept (Next.Itself g t) = Local.Itself g t
    waits_from p d a kept (Next.AtIssue command class h ahead t) = Local.AtIssue command class h ahead t
    waits_from p d a kept (Next.FromEarlier c x b t) = Local.FromEarlier c (completes_touched p c x) x b t
    waits_from p d a kept (Next.Own o) = by (touched_or_same p d o.progress o.has)
      where
        by : Touches trace e p d ⊎ Has trace p d o.progress → WaitsLocal n sets next trace e brought p d a
        by (inl y) = Local.Own y o
        by (inr y) = Local.Stays (have.own p d a kept record { progress = o.progress; has = y; chain = o.chain; cmd = o.cmd; over = o.over })

    complete_to : (p : ℕ) (class : Class) (a : At) → CompleteLocal sets next trace e p class a → CompleteNext sets next trace e p class a
    complete_to p class a (Local.WasComplete t) = Next.WasComplete t
    complete_to p class a (Local.IsNow c y x of t) = Next.IsNow c x of t

    complete_from : (p : ℕ) (class : Class) (a : At) → CompleteNext sets next trace e p class a → CompleteLocal sets next trace e p class a
    complete_from p class a (Next.WasComplete t) = Local.WasComplete t
    complete_from p class a (Next.IsNow c x of t) = Local.IsNow c (completes_touched p c x) x of t

    fixed_to : (p g : ℕ) (a : At) → FixedLocal sets next e p g a → FixedNext sets next e p g a
    fixed_to p g a (Local.WasFixed t) = Next.WasFixed t
    fixed_to p g a (Local.FixedNow f t) = Next.FixedNow f t

    fixed_from : (p g : ℕ) (a : At) → FixedNext sets next e p g a → FixedLocal sets next e p g a
    fixed_from p g a (Next.WasFixed t) = Local.WasFixed t
    fixed_from p g a (Next.FixedNow f t) = Local.FixedNow f t

    stalled_to : (p g : ℕ) (a : At) → StalledLocal sets next trace e p g a → StalledNext sets next trace e p g a
    stalled_to p g a (Local.WasStalled t) = Next.WasStalled t
    stalled_to p g a (Local.StalledNow c y x tag t) = Next.StalledNow c x tag t

    stalled_from : (p g : ℕ) (a : At) → StalledNext sets next trace e p g a → StalledLocal sets next trace e p g a
    stalled_from p g a (Next.WasStalled t) = Local.WasStalled t
    stalled_from p g a (Next.StalledNow c x tag t) = Local.StalledNow c (stalls_touched p c x) x tag t

    -- local changes are all changes
    pub local_next : AreNext n sets next trace e brought
    local_next =
        record {
          base = nx.base;
          waits = λ p d a kept. (λ t. waits_to p d a ((nx.waits p d a kept).0 t), λ w. (nx.waits p d a kept).1 (waits_from p d a kept w));
          complete = λ p class a. (λ t. complete_to p class a ((nx.complete p class a).0 t), λ w. (nx.complete p class a).1 (complete_from p class a w));
          fixed = λ p g a low. (λ t. fixed_to p g a ((nx.fixed p g a low).0 t), λ w. (nx.fixed p g a low).1 (fixed_from p g a w));
          stalled = λ p g a. (λ t. stalled_to p g a ((nx.stalled p g a).0 t), λ w. (nx.stalled p g a).1 (stalled_from p g a w));
        }
