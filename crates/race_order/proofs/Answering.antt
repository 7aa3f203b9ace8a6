-- By all rules, what the sets hold that a step looks at is what is ordered before it.
use Rattle.std.proofs.Common.{◌≡◌, ℕ, ◌<◌, Bool, true, false, [], ◌∷◌, ◌++◌, length, take, Some, ◌⊎◌, inl, inr, refl, sym, subst, arith}
use Rattle.std.specs.Prelude.{slice_get}
use Rattle.std.proofs.lemmas.Option.{slice_get_within}
use Rattle.order_sets.specs.declared.facts.At.{At}
use Rattle.race_order.specs.Trace.{Event, Trace}
use Rattle.race_order.specs.Rules.{Plain, Edge, Ordered, One, Then}
use Rattle.race_order.specs.StatusRules.{Rule}
use Rattle.race_order.specs.Stamps.{stamp, IsStamp}
use Rattle.race_order.specs.Orderly.{IsOrderly}
use Rattle.race_order.specs.Pasts.{Past, Holds}
use Rattle.race_order.proofs.Places.{get_last, get_later, take_front, take_before, place_of}
use Rattle.race_order.proofs.Among.{Found}
use Rattle.race_order.proofs.Holding.{ordered_trans, ordered_later, ordered_before, ordered_up}
use Rattle.race_order.proofs.Advance.{Answers, last_stamp}
use Rattle.race_order.specs.Pasts.{IsPast, Made}
use Rattle.race_order.specs.declared.progress.Progress.{Progress}
use Rattle.race_order.proofs.Histories.{same_progress}
use Rattle.race_order.specs.Sources.{IsKept, QueueSource}
use Rattle.race_order.specs.Premises.{IsQueued, QueueMay, MayStep}
use Rattle.race_order.specs.declared.roles.QueueRole.{QueueRole}
use Rattle.race_order.specs.declared.roles.QueueRole.TheVariants.{Base, Waits, Complete, Fixed, Stalled}
use Rattle.race_order.proofs.Sees.{LooksAt}
use Rattle.race_order.proofs.Queues.{queue_sound, queue_full}
use Rattle.race_order.proofs.PastLaws.{past_grows, not_past}

pub by_plain : (t : Trace) (i j : ℕ) → Plain t i j → Rule t i j
by_plain t i j h = inl h

pub made : (n : ℕ) (t : Trace) (a : At) → a.place < length t → IsPast n t a
made n t a l = Made l

-- what is known is what is in one of the sets that the step looks at
pub record IsKnown (sets : QueueRole → At → Bool) (trace : Trace) (e : Event) (known : At → Bool) : Type 0 where
  pub from : (a : At) → known a ≡ true → Found (LooksAt trace e) (λ r. sets r a ≡ true)
  pub has : (a : At) (r : QueueRole) → LooksAt trace e r → sets r a ≡ true → known a ≡ true

module _ (n : ℕ) (trace : Trace) (e : Event) (orderly : IsOrderly n (trace ++ (e ∷ []))) (queued : IsQueued (trace ++ (e ∷ []))) where
  abbrev longer_trace : Trace
  longer_trace = trace ++ (e ∷ [])

  here : slice_get longer_trace (length trace) ≡ Some e
  here = get_last trace e

  front_is : take (length trace) longer_trace ≡ trace
  front_is = take_before trace e

  pub new_step : IsPast n trace (stamp n (length trace) e) → ⊥
  new_step =
      not_past n trace e (orderly (length trace) e here).within (subst (λ t. QueueMay t e) front_is (queued (length trace) e here))
      (λ i f at. let low : i < length trace = slice_get_within trace i f at in subst (λ t. QueueMay t f) (take_front trace e i (omega arith)) (queued i f (get_later trace e i f at)))

  early : (i : ℕ) (a : At) → i < length trace → (st : IsStamp n longer_trace i a) → IsStamp n trace i a
  early i a low st = at (place_of trace e i st.event st.at)
    where
      at : ((i < length trace) × (slice_get trace i ≡ Some st.event)) ⊎ ((i ≡ length trace) × (e ≡ st.event)) → IsStamp n trace i a
      at (inl q) = record { event = st.event; at = q.1; is = st.is }
      at (inr q) = absurd (omega arith)

  source_sound : (r : QueueRole) → LooksAt trace e r → (k : ℕ) → QueueSource trace r k → Ordered Rule longer_trace k (length trace)
  source_sound r looks k s =
      queue_sound longer_trace queued n orderly (length trace) e here r (subst (λ t. LooksAt t e r) (sym front_is) looks) k (subst (λ t. QueueSource t r k) (sym front_is) s)

  source_full : (k : ℕ) → Edge Rule longer_trace k (length trace) → Found (LooksAt trace e) (λ r. QueueSource trace r k)
  source_full k d = subst (λ t. Found (LooksAt t e) (λ r. QueueSource t r k)) front_is (queue_full longer_trace queued n orderly (length trace) e here k d.below d.rule)

  looks_kept : (r : QueueRole) → LooksAt trace e r → IsKept trace r
  looks_kept (Base r) looks = tt
  looks_kept (Waits p d) looks = λ s h.
      let m : MayStep trace p d e.step e.effect.note = (subst (λ t. QueueMay t e) front_is (queued (length trace) e here)).step p d looks in
      subst (λ (v : Progress). v.done ≡ false) (same_progress trace p d m.progress s m.has h) m.live
  looks_kept (Complete p class) looks = tt
  looks_kept (Fixed p g) looks = looks.low
  looks_kept (Stalled p g) looks = tt

  module _ (sets : QueueRole → At → Bool) (holds : (r : QueueRole) → IsKept trace r → Holds Rule n (IsPast n) trace (sets r) (QueueSource trace r)) (known : At → Bool) (is : IsKnown sets trace e known) where
    sound : (i : ℕ) (a : At) → IsStamp n longer_trace i a → known a ≡ true → Ordered Rule longer_trace i (length trace)
    sound i a st u = from (is.from a u)
      where
        from : Found (LooksAt trace e) (λ r. sets r a ≡ true) → Ordered Rule longer_trace i (length trace)
        from f = place (place_of trace e i st.event st.at)
          where
            h : Holds Rule n (IsPast n) trace (sets f.one) (QueueSource trace f.one)
            h = holds f.one (looks_kept f.one f.first)

            past : Past Rule trace (QueueSource trace f.one) i → Ordered Rule longer_trace i (length trace)
            past p = by p.ordered
              where
                last : Ordered Rule longer_trace p.source (length trace)
                last = source_sound f.one f.first p.source p.is

                by : (i ≡ p.source) ⊎ Ordered Rule trace i p.source → Ordered Rule longer_trace i (length trace)
                by (inl q) = subst (λ k. Ordered Rule longer_trace k (length trace)) (sym q) last
                by (inr o) = ordered_trans Rule longer_trace i p.source (length trace) (ordered_later Rule trace e i p.source (h.inside p.source p.is) o) last

            place : ((i < length trace) × (slice_get trace i ≡ Some st.event)) ⊎ ((i ≡ length trace) × (e ≡ st.event)) → Ordered Rule longer_trace i (length trace)
            place (inl q) = past (h.sound i a (early i a q.0 st) f.second)
            place (inr q) =
                let w : a ≡ stamp n (length trace) e = last_stamp Rule by_plain n (IsPast n) (made n) trace e orderly a (subst (λ k. IsStamp n longer_trace k a) q.0 st) in
                absurd (new_step (subst (IsPast n trace) w (h.old a f.second)))

    full : (i : ℕ) (a : At) → IsStamp n longer_trace i a → Ordered Rule longer_trace i (length trace) → known a ≡ true
    full i a st (One d) =
        let f : Found (LooksAt trace e) (λ r. QueueSource trace r i) = source_full i d in
        is.has a f.one f.first ((holds f.one (looks_kept f.one f.first)).full i a (early i a d.below st) record { source = i; is = f.second; ordered = inl refl })
    full i a st (Then {k = k} o d) =
        let f : Found (LooksAt trace e) (λ r. QueueSource trace r k) = source_full k d in
        let up : i < k = ordered_up Rule longer_trace i k o in
        let low : k < length trace = d.below in
        is.has a f.one f.first ((holds f.one (looks_kept f.one f.first)).full i a (early i a (omega arith) st) record { source = k; is = f.second; ordered = inr (ordered_before Rule trace e i k low o) })

    old : (a : At) → known a ≡ true → IsPast n longer_trace a
    old a u = from (is.from a u)
      where
        from : Found (LooksAt trace e) (λ r. sets r a ≡ true) → IsPast n longer_trace a
        from f = past_grows n trace e a ((holds f.one (looks_kept f.one f.first)).old a f.second)

    -- what is known before the step is what is ordered before it
    pub answers : Answers Rule by_plain n (IsPast n) (made n) trace e orderly known
    answers = record { sound = sound; full = full; old = old }
