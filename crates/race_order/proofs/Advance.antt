-- The sets after one more step.
use Rattle.std.proofs.Common.{◌≡◌, ℕ, ◌+◌, ◌*◌, ◌<◌, ◌≤◌, Bool, true, false, ◌||◌, ◌&&◌, ◌==◌, [], ◌∷◌, ◌++◌, length, take, Some, ◌⊎◌, inl, inr, refl, sym, ap, ◌∙◌, subst, arith}
use Rattle.std.specs.Prelude.{slice_get}
use Rattle.std.proofs.lemmas.Bool.{cases_order, or_cases, or_left, or_right, and_from, and_parts, eqb-true, eq-eqb, leb-true, le-leb, both_ways}
use Rattle.std.proofs.lemmas.Option.{slice_get_within}
use Rattle.order_sets.specs.declared.facts.At.{At}
use Rattle.order_sets.specs.Facts.{covers, is_at}
use Rattle.cell_base.specs.declared.steps.Step.{Step}
use Rattle.cell_base.specs.declared.steps.Step.TheVariants.{Exec, Piece, Elem, Retire, Atomic, Host}
use Rattle.race_order.specs.Trace.{Event, Trace}
use Rattle.race_order.specs.Rules.{Plain, Program, Script, Ordered, One}
use Rattle.race_order.specs.declared.roles.Role.{Role}
use Rattle.race_order.specs.Stamps.{stamp, chain_of, IsStamp}
use Rattle.race_order.specs.Roles.{Source, Joins, write_roles, same_role, is_among, fact_by, fact_of}
use Rattle.race_order.specs.Orderly.{IsOrderly, IsWithin}
use Rattle.race_order.proofs.SameRole.{same_role_is, same_role_itself}
use Rattle.race_order.proofs.Places.{get_last, get_later, longer, take_front, take_before, place_of, same_get}
use Rattle.race_order.proofs.Among.{among_any, any_among, among_map, Found, among_every}
use Rattle.race_order.specs.Pasts.{Past, Holds}
use Rattle.race_order.proofs.Holding.{holds_both, holds_as, holds_later}
use Rattle.race_order.proofs.LookedAt.{step_here, atomic_chain}
use Rattle.race_order.proofs.Joined.{joins_sound, joins_full}

at_place : (f a : At) → is_at f a ≡ true → f.place ≡ a.place
at_place f a h =
    let p0 = and_parts (f.chain == a.chain) (f.cmd == a.cmd && (f.elem == a.elem && f.place == a.place)) h in
    let p1 = and_parts (f.cmd == a.cmd) (f.elem == a.elem && f.place == a.place) p0.1 in
    let p2 = and_parts (f.elem == a.elem) (f.place == a.place) p1.1 in
    eqb-true f.place a.place p2.1

at_itself : (f : At) → is_at f f ≡ true
at_itself f =
    and_from (f.chain == f.chain) (f.cmd == f.cmd && (f.elem == f.elem && f.place == f.place)) (eq-eqb f.chain f.chain refl)
    (and_from (f.cmd == f.cmd) (f.elem == f.elem && f.place == f.place) (eq-eqb f.cmd f.cmd refl) (and_from (f.elem == f.elem) (f.place == f.place) (eq-eqb f.elem f.elem refl) (eq-eqb f.place f.place refl)))

-- the steps of one of the chains that are ordered are of one kind and processor
chain_exec : (n p : ℕ) (s : Step) → IsWithin n s → p < n → chain_of n s ≡ p → s ≡ Exec p
chain_exec n p (Exec q) w low e = ap Exec e
chain_exec n p (Piece q c x k) w low e = absurd (omega arith)
chain_exec n p (Elem q c) w low e = absurd (omega arith)
chain_exec n p (Retire q c) w low e = absurd (omega arith)
chain_exec n p (Atomic q) w low e = absurd (omega arith)
chain_exec n p Host w low e = absurd (omega arith)

chain_atomic : (n p : ℕ) (s : Step) → IsWithin n s → p < n → chain_of n s ≡ n + p → s ≡ Atomic p
chain_atomic n p (Exec q) w low e = absurd (omega arith)
chain_atomic n p (Piece q c x k) w low e = absurd (omega arith)
chain_atomic n p (Elem q c) w low e = absurd (omega arith)
chain_atomic n p (Retire q c) w low e = absurd (omega arith)
chain_atomic n p (Atomic q) w low e = ap Atomic (omega arith)
chain_atomic n p Host w low e = absurd (omega arith)

chain_host : (n : ℕ) (s : Step) → IsWithin n s → chain_of n s ≡ 3 * n → s ≡ Host
chain_host n (Exec q) w e = absurd (omega arith)
chain_host n (Piece q c x k) w e = absurd (omega arith)
chain_host n (Elem q c) w e = absurd (omega arith)
chain_host n (Retire q c) w e = absurd (omega arith)
chain_host n (Atomic q) w e = absurd (omega arith)
chain_host n Host w e = refl

pub among_joins : (before : Trace) (e : Event) (r : Role) → is_among r (write_roles before e) ≡ true → Joins before e r
among_joins before e r t =
    let f : Found (λ w. same_role w r ≡ true) (λ w. Joins before e w) = among_every (λ w. same_role w r ≡ true) (λ w. Joins before e w) (write_roles before e) (any_among (λ w. same_role w r) (write_roles before e) t) (joins_sound before e) in
    subst (Joins before e) (same_role_is r f.one f.first) f.second

pub joins_among : (before : Trace) (e : Event) (r : Role) → Joins before e r → is_among r (write_roles before e) ≡ true
joins_among before e r h =
    among_any (λ w. same_role w r) (write_roles before e) (among_map (λ w. w ≡ r) (λ w. same_role w r ≡ true) (write_roles before e) (λ w q. subst (λ x. same_role x r ≡ true) (sym q) (same_role_itself r)) (joins_full before e r h))

module _ (Rule : Trace → ℕ → ℕ → Type 0) (plain : (t : Trace) (i j : ℕ) → Plain t i j → Rule t i j) (n : ℕ) (IsOld : Trace → At → Type 0) (placed : (t : Trace) (a : At) → a.place < length t → IsOld t a) where
  module _ (trace : Trace) (e : Event) (orderly : IsOrderly n (trace ++ (e ∷ []))) where
    abbrev longer_trace : Trace
    longer_trace = trace ++ (e ∷ [])

    here : slice_get longer_trace (length trace) ≡ Some e
    here = get_last trace e

    within : IsWithin n e.step
    within = (orderly (length trace) e here).within

    length_is : length longer_trace ≡ length trace + 1
    length_is = longer trace e

    -- the name of the last step
    pub last_stamp : (a : At) → IsStamp n longer_trace (length trace) a → a ≡ stamp n (length trace) e
    last_stamp a st =
        let f : e ≡ st.event = same_get (slice_get longer_trace (length trace)) e st.event here st.at in
        subst (λ ev. a ≡ stamp n (length trace) ev) (sym f) st.is

    pub place_is : (i : ℕ) (a : At) → IsStamp n longer_trace i a → a.place ≡ i
    place_is i a st = ap (λ (x : At). x.place) st.is

    abbrev last : At
    last = stamp n (length trace) e

    -- the fact covers the step and what is ordered before it
    fact_sound : (i : ℕ) (a : At) → IsStamp n longer_trace i a → (s : Step) → e.step ≡ s → covers (fact_by n last s) a ≡ true → (i ≡ length trace) ⊎ Ordered Rule longer_trace i (length trace)
    fact_sound i a st s q c = by (cases_order i (length trace))
      where
        low : i < length longer_trace
        low = slice_get_within longer_trace i st.event st.at

        named : IsWithin n st.event.step
        named = (orderly i st.event st.at).within

        chain : a.chain ≡ chain_of n st.event.step
        chain = ap (λ (x : At). x.chain) st.is

        one : (f : At) → is_at f a ≡ true → f.place ≡ length trace → i ≡ length trace
        one f h g = sym (place_is i a st) ∙ sym (at_place f a h) ∙ g

        before : i < length trace → (s : Step) → e.step ≡ s → covers (fact_by n last s) a ≡ true → (i ≡ length trace) ⊎ Ordered Rule longer_trace i (length trace)
        before up (Exec p) q c =
            let h = and_parts _ _ c in
            let w : p < n = subst (IsWithin n) q within in
            let k : st.event.step ≡ Exec p = chain_exec n p st.event.step named w (sym chain ∙ eqb-true _ _ h.0) in
            inr
            (One record {
              below = up;
              rule =
                  plain _ _ _
                  (Program p (step_here longer_trace i (length trace + 1) (Exec p) (omega arith) record { event = st.event; at = st.at; is = k })
                  (step_here longer_trace (length trace) (length trace + 1) (Exec p) (omega arith) record { event = e; at = here; is = q }));
            })
        before up (Atomic p) q c =
            let h = and_parts _ _ c in
            let w : p < n = subst (IsWithin n) q within in
            let k : st.event.step ≡ Atomic p = chain_atomic n p st.event.step named w (sym chain ∙ eqb-true _ _ h.0) in
            inr (atomic_chain Rule plain n longer_trace orderly p i (length trace) up record { event = st.event; at = st.at; is = k } record { event = e; at = here; is = q })
        before up Host q c =
            let h = and_parts _ _ c in
            let k : st.event.step ≡ Host = chain_host n st.event.step named (sym chain ∙ eqb-true _ _ h.0) in
            inr
            (One record {
              below = up;
              rule =
                  plain _ _ _
                  (Script (step_here longer_trace i (length trace + 1) Host (omega arith) record { event = st.event; at = st.at; is = k })
                  (step_here longer_trace (length trace) (length trace + 1) Host (omega arith) record { event = e; at = here; is = q }));
            })
        before up (Piece p d x k) q c = inl (one last c refl)
        before up (Elem p d) q c = inl (one last c refl)
        before up (Retire p d) q c = inl (one last c refl)

        by : (i ≡ length trace) ⊎ ((i < length trace) ⊎ (length trace < i)) → (i ≡ length trace) ⊎ Ordered Rule longer_trace i (length trace)
        by (inl same) = inl same
        by (inr (inl up)) = before up s q c
        by (inr (inr down)) = let k : length longer_trace ≡ length trace + 1 = length_is in let l : i < length longer_trace = low in absurd (omega arith)

    fact_full : (s : Step) → chain_of n s ≡ last.chain → covers (fact_by n last s) last ≡ true
    fact_full (Exec p) q = and_from _ _ (eq-eqb last.chain p (sym q)) (le-leb (length trace) (length trace) (omega arith))
    fact_full (Atomic p) q = and_from _ _ (eq-eqb last.chain (n + p) (sym q)) (le-leb (length trace) (length trace) (omega arith))
    fact_full Host q = and_from _ _ (eq-eqb last.chain (3 * n) (sym q)) (le-leb (length trace) (length trace) (omega arith))
    fact_full (Piece p c x k) q = at_itself last
    fact_full (Elem p c) q = at_itself last
    fact_full (Retire p c) q = at_itself last

    fact_old : (a : At) (s : Step) → covers (fact_by n last s) a ≡ true → a.place < length longer_trace
    fact_old a s c = let k : length longer_trace ≡ length trace + 1 = length_is in let low : a.place ≤ length trace = under s c in omega arith
      where
        one : (f : At) → is_at f a ≡ true → f.place ≡ length trace → a.place ≤ length trace
        one f h g = let k : f.place ≡ a.place = at_place f a h in omega arith

        under : (s : Step) → covers (fact_by n last s) a ≡ true → a.place ≤ length trace
        under (Exec p) c = let h = and_parts _ _ c in leb-true _ _ h.1
        under (Atomic p) c = let h = and_parts _ _ c in leb-true _ _ h.1
        under Host c = let h = and_parts _ _ c in leb-true _ _ h.1
        under (Piece p d x k) c = one last c refl
        under (Elem p d) c = one last c refl
        under (Retire p d) c = one last c refl

    -- known is what is ordered before the step
    pub record Answers (known : At → Bool) : Type 0 where
      pub sound : (i : ℕ) (a : At) → IsStamp n longer_trace i a → known a ≡ true → Ordered Rule longer_trace i (length trace)
      pub full : (i : ℕ) (a : At) → IsStamp n longer_trace i a → Ordered Rule longer_trace i (length trace) → known a ≡ true
      pub old : (a : At) → known a ≡ true → IsOld longer_trace a

    -- with the step's own fact it is the past of the step
    pub point : (known : At → Bool) → Answers known → Holds Rule n IsOld longer_trace (λ a. known a || covers (fact_of n (length trace) e) a) (λ k. k ≡ length trace)
    point known h =
        record {
          inside = λ k u. let l : length longer_trace ≡ length trace + 1 = length_is in omega arith;
          sound = λ i a st u. sound i a st (or_cases _ _ u);
          full = λ i a st p. full i a st p p.is p.ordered;
          old = λ a u. old a (or_cases _ _ u);
        }
      where
        sound : (i : ℕ) (a : At) → IsStamp n longer_trace i a → (known a ≡ true) ⊎ (covers (fact_of n (length trace) e) a ≡ true) → Past Rule longer_trace (λ k. k ≡ length trace) i
        sound i a st (inl u) = record { source = length trace; is = refl; ordered = inr (h.sound i a st u) }
        sound i a st (inr u) = record { source = length trace; is = refl; ordered = fact_sound i a st e.step refl u }

        full : (i : ℕ) (a : At) → IsStamp n longer_trace i a → (p : Past Rule longer_trace (λ k. k ≡ length trace) i) → p.source ≡ length trace → (i ≡ p.source) ⊎ Ordered Rule longer_trace i p.source → (known a || covers (fact_of n (length trace) e) a) ≡ true
        full i a st p same (inl f) =
            let q : i ≡ length trace = f ∙ same in
            or_right _ _ (subst (λ x. covers (fact_of n (length trace) e) x ≡ true) (sym (last_stamp a (subst (λ k. IsStamp n longer_trace k a) q st))) (fact_full e.step refl))
        full i a st p same (inr o) = or_left _ _ (h.full i a st (subst (Ordered Rule longer_trace i) same o))

        old : (a : At) → (known a ≡ true) ⊎ (covers (fact_of n (length trace) e) a ≡ true) → IsOld longer_trace a
        old a (inl u) = h.old a u
        old a (inr u) = placed longer_trace a (fact_old a e.step u)

    source_later : (r : Role) (k : ℕ) → Source trace r k → Source longer_trace r k
    source_later r k h = let low : k < length trace = slice_get_within trace k h.event h.at in record { event = h.event; at = get_later trace e k h.event h.at; joins = subst (λ t. Joins t h.event r) (sym (take_front trace e k (omega arith))) h.joins }

    pub source_cases : (r : Role) (k : ℕ) → Source longer_trace r k → Source trace r k ⊎ ((k ≡ length trace) × Joins trace e r)
    source_cases r k h = at (place_of trace e k h.event h.at)
      where
        at : ((k < length trace) × (slice_get trace k ≡ Some h.event)) ⊎ ((k ≡ length trace) × (e ≡ h.event)) → Source trace r k ⊎ ((k ≡ length trace) × Joins trace e r)
        at (inl q) = inl record { event = h.event; at = q.1; joins = subst (λ t. Joins t h.event r) (take_front trace e k (omega arith)) h.joins }
        at (inr q) = inr (q.0, subst (λ ev. Joins trace ev r) (sym q.1) (subst (λ t. Joins t h.event r) (subst (λ x. take x longer_trace ≡ trace) (sym q.0) (take_before trace e)) h.joins))

    source_here : (r : Role) → Joins trace e r → Source longer_trace r (length trace)
    source_here r h = record { event = e; at = here; joins = subst (λ t. Joins t e r) (sym (take_before trace e)) h }

    -- each set is the past of its sources again
    pub set_kept : (brought : At → Bool) → Holds Rule n IsOld longer_trace brought (λ k. k ≡ length trace) → ((a : At) → IsOld trace a → IsOld longer_trace a) → (IsOld trace (stamp n (length trace) e) → ⊥)
        → (r : Role) (s : At → Bool) → Holds Rule n IsOld trace s (Source trace r)
        → Holds Rule n IsOld longer_trace (λ a. s a || (is_among r (write_roles trace e) && brought a)) (Source longer_trace r)
    set_kept brought pointed grows new r s h = by (is_among r (write_roles trace e)) refl
      where
        later : Holds Rule n IsOld longer_trace s (Source trace r)
        later = holds_later Rule n IsOld trace e s (Source trace r) grows new h

        inside : (k : ℕ) → Source longer_trace r k → k < length longer_trace
        inside k u = slice_get_within longer_trace k u.event u.at

        by : (b : Bool) → is_among r (write_roles trace e) ≡ b → Holds Rule n IsOld longer_trace (λ a. s a || (b && brought a)) (Source longer_trace r)
        by true q =
            holds_as Rule n IsOld longer_trace (λ a. s a || brought a) (λ k. Source trace r k ⊎ (k ≡ length trace)) (Source longer_trace r) inside
            (λ k u. record { source = k; is = into k u; ordered = inl refl })
            (λ k u. record { source = k; is = from k (source_cases r k u); ordered = inl refl })
            (holds_both Rule n IsOld longer_trace s brought (Source trace r) (λ k. k ≡ length trace) later pointed)
          where
            into : (k : ℕ) → Source trace r k ⊎ (k ≡ length trace) → Source longer_trace r k
            into k (inl u) = source_later r k u
            into k (inr f) = subst (Source longer_trace r) (sym f) (source_here r (among_joins trace e r q))

            from : (k : ℕ) → Source trace r k ⊎ ((k ≡ length trace) × Joins trace e r) → Source trace r k ⊎ (k ≡ length trace)
            from k (inl u) = inl u
            from k (inr u) = inr u.0
        by false q =
            holds_as Rule n IsOld longer_trace (λ a. s a || false) (Source trace r) (Source longer_trace r) inside
            (λ k u. record { source = k; is = source_later r k u; ordered = inl refl })
            (λ k u. record { source = k; is = from k (source_cases r k u); ordered = inl refl })
            record { inside = later.inside; sound = λ i a st u. later.sound i a st (left (or_cases _ _ u)); full = λ i a st p. or_left _ _ (later.full i a st p); old = λ a u. later.old a (left (or_cases _ _ u)) }
          where
            left : {x : Bool} → (x ≡ true) ⊎ (false ≡ true) → x ≡ true
            left (inl u) = u
            left (inr u) = cc

            from : (k : ℕ) → Source trace r k ⊎ ((k ≡ length trace) × Joins trace e r) → Source trace r k
            from k (inl u) = u
            from k (inr u) = absurd (both_ways _ q (joins_among trace e r u.1))
