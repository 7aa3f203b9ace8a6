-- What it is that a set of known steps is the past of some places.
use Rattle.std.proofs.Common.{◌≡◌, ℕ, ◌+◌, ◌<◌, Bool, true, false, ◌||◌, [], ◌∷◌, ◌++◌, length, take, ◌⊎◌, inl, inr, refl, sym, subst, arith}
use Rattle.std.specs.Prelude.{slice_get, Some}
use Rattle.std.proofs.lemmas.Bool.{or_cases, or_left, or_right}
use Rattle.order_sets.specs.declared.facts.At.{At}
use Rattle.race_order.specs.Trace.{Event, Trace}
use Rattle.race_order.specs.Rules.{Edge, Ordered, One, Then}
use Rattle.race_order.specs.Pasts.{Past, Holds}
use Rattle.race_order.specs.Stamps.{stamp, IsStamp}
use Rattle.race_order.proofs.Places.{place_of, take_front, longer}

module _ (Rule : Trace → ℕ → ℕ → Type 0) where
  pub ordered_up : (trace : Trace) (i j : ℕ) → Ordered Rule trace i j → i < j
  ordered_up trace i j (One e) = e.below
  ordered_up trace i j (Then {k = k} o e) = let low : i < k = ordered_up trace i k o in let high : k < j = e.below in omega arith

  pub ordered_trans : (trace : Trace) (i k j : ℕ) → Ordered Rule trace i k → Ordered Rule trace k j → Ordered Rule trace i j
  ordered_trans trace i k j o (One e) = Then o e
  ordered_trans trace i k j o (Then {k = m} u e) = Then (ordered_trans trace i k m o u) e

  -- one more step changes nothing between the steps before it
  module _ (trace : Trace) (e : Event) where
    same_front : (j : ℕ) → j < length trace → take (j + 1) (trace ++ (e ∷ [])) ≡ take (j + 1) trace
    same_front j low = take_front trace e (j + 1) (omega arith)

    pub edge_later : (i j : ℕ) → j < length trace → Edge Rule trace i j → Edge Rule (trace ++ (e ∷ [])) i j
    edge_later i j low d = record { below = d.below; rule = subst (λ t. Rule t i j) (sym (same_front j low)) d.rule }

    pub edge_before : (i j : ℕ) → j < length trace → Edge Rule (trace ++ (e ∷ [])) i j → Edge Rule trace i j
    edge_before i j low d = record { below = d.below; rule = subst (λ t. Rule t i j) (same_front j low) d.rule }

    pub ordered_later : (i j : ℕ) → j < length trace → Ordered Rule trace i j → Ordered Rule (trace ++ (e ∷ [])) i j
    ordered_later i j low (One d) = One (edge_later i j low d)
    ordered_later i j low (Then {k = k} o d) = let below : k < j = d.below in Then (ordered_later i k (omega arith) o) (edge_later k j low d)

    pub ordered_before : (i j : ℕ) → j < length trace → Ordered Rule (trace ++ (e ∷ [])) i j → Ordered Rule trace i j
    ordered_before i j low (One d) = One (edge_before i j low d)
    ordered_before i j low (Then {k = k} o d) = let below : k < j = d.below in Then (ordered_before i k (omega arith) o) (edge_before k j low d)

  -- the sources may be enlarged, and those that are ordered before others left out
  pub past_of : (trace : Trace) (S T : ℕ → Type 0) (i : ℕ) → ((k : ℕ) → S k → Past Rule trace T k) → Past Rule trace S i → Past Rule trace T i
  past_of trace S T i into p = through (into p.source p.is) p.ordered
    where
      through : (q : Past Rule trace T p.source) → (i ≡ p.source) ⊎ Ordered Rule trace i p.source → Past Rule trace T i
      through q (inl e) = record { source = q.source; is = q.is; ordered = subst (λ x. (x ≡ q.source) ⊎ Ordered Rule trace x q.source) (sym e) q.ordered }
      through q (inr o) = record { source = q.source; is = q.is; ordered = next q.ordered }
        where
          next : (p.source ≡ q.source) ⊎ Ordered Rule trace p.source q.source → (i ≡ q.source) ⊎ Ordered Rule trace i q.source
          next (inl f) = inr (subst (Ordered Rule trace i) f o)
          next (inr u) = inr (ordered_trans trace i p.source q.source o u)

  pub past_itself : (trace : Trace) (S : ℕ → Type 0) (k : ℕ) → S k → Past Rule trace S k
  past_itself trace S k s = record { source = k; is = s; ordered = inl refl }

  module _ (n : ℕ) (IsOld : Trace → At → Type 0) where
    pub holds_none : (trace : Trace) → Holds Rule n IsOld trace (λ a. false) (λ k. ⊥)
    holds_none trace = record { inside = λ k none. absurd none; sound = λ i a st t. cc; full = λ i a st p. absurd p.is; old = λ a t. cc }

    pub holds_both : (trace : Trace) (s t : At → Bool) (S T : ℕ → Type 0) → Holds Rule n IsOld trace s S → Holds Rule n IsOld trace t T → Holds Rule n IsOld trace (λ a. s a || t a) (λ k. S k ⊎ T k)
    holds_both trace s t S T h g =
        record { inside = λ k u. inside k u; sound = λ i a st u. sound i a st (or_cases _ _ u); full = λ i a st p. full i a st p p.is; old = λ a u. old a (or_cases _ _ u) }
      where
        inside : (k : ℕ) → S k ⊎ T k → k < length trace
        inside k (inl u) = h.inside k u
        inside k (inr u) = g.inside k u

        sound : (i : ℕ) (a : At) → IsStamp n trace i a → (s a ≡ true) ⊎ (t a ≡ true) → Past Rule trace (λ k. S k ⊎ T k) i
        sound i a st (inl u) = let p : Past Rule trace S i = h.sound i a st u in record { source = p.source; is = inl p.is; ordered = p.ordered }
        sound i a st (inr u) = let p : Past Rule trace T i = g.sound i a st u in record { source = p.source; is = inr p.is; ordered = p.ordered }

        full : (i : ℕ) (a : At) → IsStamp n trace i a → (p : Past Rule trace (λ k. S k ⊎ T k) i) → S p.source ⊎ T p.source → (s a || t a) ≡ true
        full i a st p (inl u) = or_left _ _ (h.full i a st record { source = p.source; is = u; ordered = p.ordered })
        full i a st p (inr u) = or_right _ _ (g.full i a st record { source = p.source; is = u; ordered = p.ordered })

        old : (a : At) → (s a ≡ true) ⊎ (t a ≡ true) → IsOld trace a
        old a (inl u) = h.old a u
        old a (inr u) = g.old a u

    -- other sources with the same past
    pub holds_as : (trace : Trace) (s : At → Bool) (S T : ℕ → Type 0) → ((k : ℕ) → T k → k < length trace) → ((k : ℕ) → S k → Past Rule trace T k) → ((k : ℕ) → T k → Past Rule trace S k) → Holds Rule n IsOld trace s S → Holds Rule n IsOld trace s T
    holds_as trace s S T inside to from h =
        record { inside = inside; sound = λ i a st u. past_of trace S T i to (h.sound i a st u); full = λ i a st p. h.full i a st (past_of trace T S i from p); old = h.old }

    -- after one more step, which the set doesn't cover
    pub holds_later : (trace : Trace) (e : Event) (s : At → Bool) (S : ℕ → Type 0) → ((a : At) → IsOld trace a → IsOld (trace ++ (e ∷ [])) a) → (IsOld trace (stamp n (length trace) e) → ⊥) → Holds Rule n IsOld trace s S → Holds Rule n IsOld (trace ++ (e ∷ [])) s S
    holds_later trace e s S grows new h =
        record { inside = λ k u. inside k u; sound = λ i a st u. sound i a u st (place_of trace e i st.event st.at); full = λ i a st p. full i a st p (below i p); old = λ a u. grows a (h.old a u) }
      where
        trace' : Trace
        trace' = trace ++ (e ∷ [])

        inside : (k : ℕ) → S k → k < length trace'
        inside k u = let low : k < length trace = h.inside k u in omega (arith, longer trace e)

        early : (i : ℕ) (a : At) → i < length trace → (st : IsStamp n trace' i a) → IsStamp n trace i a
        early i a low st = at (place_of trace e i st.event st.at)
          where
            at : ((i < length trace) × (slice_get trace i ≡ Some st.event)) ⊎ ((i ≡ length trace) × (e ≡ st.event)) → IsStamp n trace i a
            at (inl q) = record { event = st.event; at = q.1; is = st.is }
            at (inr q) = absurd (omega arith)

        sound : (i : ℕ) (a : At) → s a ≡ true → (st : IsStamp n trace' i a) → ((i < length trace) × (slice_get trace i ≡ Some st.event)) ⊎ ((i ≡ length trace) × (e ≡ st.event)) → Past Rule trace' S i
        sound i a u st (inl q) =
            let p : Past Rule trace S i = h.sound i a (early i a q.0 st) u in
            record { source = p.source; is = p.is; ordered = more p p.ordered }
          where
            more : (p : Past Rule trace S i) → (i ≡ p.source) ⊎ Ordered Rule trace i p.source → (i ≡ p.source) ⊎ Ordered Rule trace' i p.source
            more p (inl f) = inl f
            more p (inr o) = inr (ordered_later trace e i p.source (h.inside p.source p.is) o)
        sound i a u st (inr q) =
            let same : a ≡ stamp n (length trace) e = subst (λ ev. a ≡ stamp n (length trace) ev) (sym q.1) (subst (λ k. a ≡ stamp n k st.event) q.0 st.is) in
            absurd (new (subst (IsOld trace) same (h.old a u)))

        below : (i : ℕ) → Past Rule trace' S i → i < length trace
        below i p = at p.ordered
          where
            at : (i ≡ p.source) ⊎ Ordered Rule trace' i p.source → i < length trace
            at (inl f) = subst (λ k. k < length trace) (sym f) (h.inside p.source p.is)
            at (inr o) = let up : i < p.source = ordered_up trace' i p.source o in let low : p.source < length trace = h.inside p.source p.is in omega arith

        full : (i : ℕ) (a : At) → IsStamp n trace' i a → Past Rule trace' S i → i < length trace → s a ≡ true
        full i a st p low = h.full i a (early i a low st) record { source = p.source; is = p.is; ordered = less p.ordered }
          where
            less : (i ≡ p.source) ⊎ Ordered Rule trace' i p.source → (i ≡ p.source) ⊎ Ordered Rule trace i p.source
            less (inl f) = inl f
            less (inr o) = inr (ordered_before trace e i p.source (h.inside p.source p.is) o)
