-- An orderer stands for the longer run after a step.
use Rattle.std.proofs.Common.{◌≡◌, ℕ, ◌+◌, ◌*◌, ◌-◌, ◌<◌, Bool, true, false, List, [], ◌∷◌, ◌++◌, map, length, take, get_or, Option, Some, None, ◌⊎◌, inl, inr, refl, sym, ap, ◌∙◌, subst, subst₂, ◌&&◌, ◌||◌, ◌==◌, arith}
use Rattle.std.proofs.lemmas.Bool.{cases_eq, and_from, and_parts, eq-eqb, eqb-true, both_ways, false_from_ne_true}
use Rattle.std.specs.Prelude.{slice_get, filter, not, ◌≢◌, Vec}
use Rattle.std.specs.declared.alloc.Global.{Global}
use Rattle.cell_base.specs.declared.steps.Step.{Step}
use Rattle.cell_base.specs.declared.steps.Step.TheVariants.{Exec, Piece, Elem, Retire, Atomic, Host}
use Rattle.cell_machine.proofs.Same.{some_same}
use Rattle.std.proofs.lemmas.Option.{get_or_from_slice_get}
use Rattle.order_sets.specs.declared.facts.At.{At}
use Rattle.order_sets.specs.declared.facts.Fact.{Fact}
use Rattle.order_sets.specs.Facts.{covers}
use Rattle.race_order.specs.Trace.{Event, Trace, is_of}
use Rattle.race_order.specs.Stamps.{stamp, chain_of, IsStamp}
use Rattle.race_order.proofs.Places.{get_there}
use Rattle.race_order.proofs.Stands.{chain_low}
use Rattle.race_order.specs.declared.orderer.Orderer.{Orderer}
use Rattle.race_order.specs.Standing.{StandsFor, Keep, IsLast, with_issued}
use Rattle.std.proofs.Math.Path.{fun_ext}
use Rattle.std.specs.List.{list_any}
use Rattle.race_order.specs.Rules.{Ordered}
use Rattle.race_order.specs.StatusRules.{Rule}
use Rattle.race_order.specs.Orderly.{IsOrderly, IsWithin}
use Rattle.race_order.proofs.Places.{longer, place_of, take_front, take_before}
use Rattle.race_order.proofs.Advance.{Answers}
use Rattle.race_order.specs.declared.lives.Live.{Live}
use Rattle.race_order.specs.declared.roles.QueueRole.{QueueRole}
use Rattle.race_order.specs.declared.roles.QueueRole.TheVariants.{Base, Waits, Complete, Fixed, Stalled}
use Rattle.race_order.specs.Premises.{MayStep, IsQueued, QueueMay}
use Rattle.race_order.proofs.Naming.{Names, named_point}
use Rattle.race_order.proofs.Nexts.{AreNext}
use Rattle.race_order.proofs.Nexts as Next
use Rattle.race_order.specs.Sources.{HaveOwn, IsKept, QueueSource}
use Rattle.race_order.specs.Lives.{ShowsLives, lives_of, near, moved, moves_own_line, moves_line_by}
use Rattle.race_order.specs.Pasts.{IsPast, Holds}
use Rattle.race_order.specs.Passes.{View, is_over, is_over_as}
use Rattle.race_order.specs.Bringing.{AreKept, nexts}
use Rattle.race_order.specs.Ordering.{issued_in, spe_in}
use Rattle.race_order.specs.Ordering.{issued_in}
use Rattle.race_order.specs.Lines.{moves_line}
use Rattle.race_order.proofs.WholeLines.{own_line, line_own}
use Rattle.race_order.proofs.Answering.{by_plain, made, answers}
use Rattle.race_order.proofs.Composed.{passes_local}
use Rattle.race_order.proofs.Locals.{local_next}
use Rattle.race_order.proofs.Passed.{Picked, picked, pick}
use Rattle.race_order.specs.Queue.{Has}
use Rattle.race_order.proofs.Kept.{all_kept, kept_before}
use Rattle.race_order.proofs.Listings.{into_list, are_lists, looked_list, is_known}
use Rattle.race_order.proofs.LivesNext.{ShowsNear, shows_near, after_has, lives_next, lives_else, who_within}

pub name_is : (o : Orderer) (trace : Trace) (i : ℕ) (a : At) → StandsFor o trace → i + 1 < length trace → a ≡ get_or o.names.items i a → IsStamp o.spes trace i a
name_is o trace i a stands low is =
    let h : (e : Event) × (slice_get trace i ≡ Some e) = get_there trace i (omega arith) in
    let g : slice_get o.names.items i ≡ Some (stamp o.spes i h.0) = stands.names.named i h.0 h.1 in
    record { event = h.0; at = h.1; is = is ∙ get_or_from_slice_get o.names.items i (stamp o.spes i h.0) a g }

pub name_within : (o : Orderer) (trace : Trace) (i : ℕ) (a : At) → StandsFor o trace → IsStamp o.spes trace i a → a.chain < 3 * o.spes + 1
name_within o trace i a stands st =
    let w : chain_of o.spes st.event.step < 3 * o.spes + 1 = chain_low o.spes st.event.step (stands.orderly i st.event st.at).within in
    let e : a.chain ≡ chain_of o.spes st.event.step = ap (λ (x : At). x.chain) st.is in
    omega arith

none_over : (next : List Live) → list_any (λ (l : Live). false) next ≡ false
none_over [] = refl
none_over (l ∷ ls) = none_over ls

-- no set that is kept is of a command that is complete now
pub kept_not_over : (trace : Trace) (e : Event) (may : QueueMay trace e) (lives : List Live) (shows : ShowsNear (spe_in e.step) lives trace) (r : QueueRole) → IsKept (trace ++ (e ∷ [])) r → is_over (map (λ l. moved l e.step e.effect.note) lives) r ≡ false
kept_not_over trace e may lives shows (Base r) kept = none_over (map (λ l. moved l e.step e.effect.note) lives)
kept_not_over trace e may lives shows (Complete p class) kept = none_over (map (λ l. moved l e.step e.effect.note) lives)
kept_not_over trace e may lives shows (Fixed p g) kept = none_over (map (λ l. moved l e.step e.effect.note) lives)
kept_not_over trace e may lives shows (Stalled p g) kept = none_over (map (λ l. moved l e.step e.effect.note) lives)
kept_not_over trace e may lives shows (Waits p d) kept = false_from_ne_true _ (λ u. over (picked (is_over_as (Waits p d)) (map (λ l. moved l e.step e.effect.note) lives) u))
  where
    over : Picked (is_over_as (Waits p d)) (map (λ l. moved l e.step e.effect.note) lives) → ⊥
    over x =
        let m = after_has trace e may lives shows x.one x.place x.at in
        let a = and_parts x.one.progress.done (x.one.spe == p && x.one.cmd == d) x.passes in
        let b = and_parts (x.one.spe == p) (x.one.cmd == d) a.1 in
        both_ways _ (kept x.one.progress (subst₂ (λ y z. Has (trace ++ (e ∷ [])) y z x.one.progress) (eqb-true x.one.spe p b.0) (eqb-true x.one.cmd d b.1) m)) a.0

module _ (n : ℕ) (trace : Trace) (e : Event) (orderly : IsOrderly n (trace ++ (e ∷ []))) (queued : IsQueued (trace ++ (e ∷ []))) (known : At → Bool) (lives : List Live) (shows : ShowsNear (spe_in e.step) lives trace) (sets : View) (have : HaveOwn n sets trace) (kept : Keep n trace sets) (known_is : (a : At) → known a ≡ list_any (λ r. sets r a) (looked_list trace e)) where
  abbrev T : Trace
  T = trace ++ (e ∷ [])

  ans : Answers Rule by_plain n (IsPast n) (made n) trace e orderly known
  ans = answers n trace e orderly queued sets kept.holds known (is_known trace e sets known known_is)

  pub last_next : IsLast n T known
  last_next =
      record {
        says = λ i a st low.
            (λ t. subst (Ordered Rule T i) last (ans.sound i a st t), λ o. ans.full i a st (subst (Ordered Rule T i) (sym last) o));
      }
    where
      last : length trace ≡ length T - 1
      last = let k : length T ≡ length trace + 1 = longer trace e in omega arith

  module _ (may : QueueMay trace e) (fact : Fact) (names : Names n trace e fact) (final : View) (passed : AreKept n e.step e.effect (λ a. known a || covers fact a) lives (into_list trace e) sets final) where
    abbrev brought : At → Bool
    brought a = known a || covers fact a

    pointed : Holds Rule n (IsPast n) T brought (λ k. k ≡ length trace)
    pointed = named_point n trace e orderly queued known ans fact names

    nx : AreNext n sets passed.all trace e brought
    nx = local_next trace e n sets passed.all brought have (passes_local n trace e orderly queued brought lives shows sets have (into_list trace e) (are_lists trace e) passed.all passed.stepped)

    same : (r : QueueRole) → IsKept T r → (a : At) → final r a ≡ passed.all r a
    same r k a = passed.kept r a (kept_not_over trace e may lives shows r k)

    pub keep_next : Keep n T final
    keep_next =
        record { holds = λ r k. subst (λ s. Holds Rule n (IsPast n) T s (QueueSource T r)) (sym (fun_ext (λ a. same r k a))) (all_kept n trace e orderly queued sets passed.all kept.holds brought pointed nx r (kept_before n trace e orderly queued sets passed.all kept.holds brought pointed nx r k)) }

    -- with what names the step, what is known before it is what is ordered before it, as far as other steps are asked for
    pub named_next : IsLast n T brought
    named_next =
        record {
          says = λ i a st low. (
            λ t. let v = pointed.sound i a st t in by i low v.source v.is v.ordered,
            λ o. pointed.full i a st record { source = length trace; is = refl; ordered = inr (subst (Ordered Rule T i) (sym last) o) },
          );
        }
      where
        last : length trace ≡ length T - 1
        last = let k : length T ≡ length trace + 1 = longer trace e in omega arith

        by : (i : ℕ) → i + 1 < length T → (k : ℕ) → k ≡ length trace → (i ≡ k) ⊎ Ordered Rule T i k → Ordered Rule T i (length T - 1)
        by i low k is (inl same) = let l : length T ≡ length trace + 1 = longer trace e in absurd (omega arith)
        by i low k is (inr o) = subst (Ordered Rule T i) (is ∙ last) o

    pub own_next : HaveOwn n final T
    own_next =
        record { own = λ p d a k o. same (Waits p d) k a ∙ (nx.waits p d a (kept_before n trace e orderly queued sets passed.all kept.holds brought pointed nx (Waits p d) k)).1 (Next.Own o) }

pub queued_next : (trace : Trace) (e : Event) → IsQueued trace → QueueMay trace e → IsQueued (trace ++ (e ∷ []))
queued_next trace e o may i f at = by (place_of trace e i f at)
  where
    by : ((i < length trace) × (slice_get trace i ≡ Some f)) ⊎ ((i ≡ length trace) × (e ≡ f)) → QueueMay (take i (trace ++ (e ∷ []))) f
    by (inl q) = subst (λ t. QueueMay t f) (sym (take_front trace e i (omega arith))) (o i f q.1)
    by (inr q) = subst (λ t. QueueMay t f) (sym (subst (λ k. take k (trace ++ (e ∷ [])) ≡ trace) (sym q.0) (take_before trace e))) (subst (QueueMay trace) q.1 may)

-- the list of the step's processor
pub near_stands : (o : Orderer) (trace : Trace) (step : Step) → StandsFor o trace → IsWithin o.spes step → ShowsNear (spe_in step) (near o.lives.items (spe_in step)) trace
near_stands o trace step st w = shows_near (spe_in step) o.lives.items trace (λ p h. st.lives p (who_within o.spes step w p h))

-- the lists after the step
pub lives_stand : (o : Orderer) (trace : Trace) (e : Event) → StandsFor o trace → IsWithin o.spes e.step → QueueMay trace e → (lists : List (Vec Live Global))
    → ((p : ℕ) → spe_in e.step ≡ Some p → lives_of lists p ≡ with_issued (issued_in e.step e.effect.note) (filter (λ l. not l.progress.done) (nexts e.step e.effect (lives_of o.lives.items p))))
    → ((p : ℕ) → spe_in e.step ≢ Some p → lives_of lists p ≡ lives_of o.lives.items p) → (p : ℕ) → p < o.spes → ShowsLives p (lives_of lists p) (trace ++ (e ∷ []))
lives_stand o trace e st w may lists own others p low = by (spe_in e.step) refl
  where
    differs : (q : ℕ) → (q ≡ p → ⊥) → Some q ≢ Some p
    differs q ne h = ne (some_same q p h)

    none : None ≢ Some p
    none h = cc

    else : spe_in e.step ≢ Some p → ShowsLives p (lives_of lists p) (trace ++ (e ∷ []))
    else ne = subst (λ l. ShowsLives p l (trace ++ (e ∷ []))) (sym (others p ne)) (lives_else trace e p (lives_of o.lives.items p) ne (st.lives p low))

    this : spe_in e.step ≡ Some p → ShowsLives p (lives_of lists p) (trace ++ (e ∷ []))
    this h =
        let shows : ShowsNear (spe_in e.step) (lives_of o.lives.items p) trace = subst (λ x. ShowsNear (spe_in e.step) (near o.lives.items x) trace) h (near_stands o trace e.step st w) in
        subst (λ l. ShowsLives p l (trace ++ (e ∷ []))) (sym (own p h)) (lives_next trace e may (lives_of o.lives.items p) shows p h)

    by : (x : Option ℕ) → spe_in e.step ≡ x → ShowsLives p (lives_of lists p) (trace ++ (e ∷ []))
    by None h = else (λ g. none (sym h ∙ g))
    by (Some q) h = which (cases_eq q p)
      where
        which : (q ≡ p) ⊎ (q ≡ p → ⊥) → ShowsLives p (lives_of lists p) (trace ++ (e ∷ []))
        which (inl s) = this (h ∙ ap Some s)
        which (inr ne) = else (λ g. differs q ne (sym h ∙ g))

both_or_none : (x y : Bool) → (x ≡ true → y ≡ true) → (y ≡ true → x ≡ true) → x ≡ y
both_or_none true y f g = sym (f refl)
both_or_none false true f g = g refl
both_or_none false false f g = refl

-- the outstanding commands tell whether the step moves a line whole
pub moves_same : (trace : Trace) (e : Event) → IsQueued trace → QueueMay trace e → (lives : List Live) → ShowsNear (spe_in e.step) lives trace → moves_line_by lives e.step ≡ moves_line trace e.step
moves_same trace e queued may lives shows = by e.step refl
  where
    piece : (p c x k : ℕ) → e.step ≡ Piece p c x k → moves_line_by lives e.step ≡ moves_line trace e.step
    piece p c x k f = both_or_none _ _ to from
      where
        of : is_of p c e.step ≡ true
        of = ap (is_of p c) f ∙ and_from _ _ (eq-eqb p p refl) (eq-eqb c c refl)

        to : moves_line_by lives e.step ≡ true → moves_line trace e.step ≡ true
        to t =
            let y : Picked (λ l. moves_own_line l (Piece p c x k)) lives = picked (λ l. moves_own_line l (Piece p c x k)) lives (sym (ap (moves_line_by lives) f) ∙ t) in
            (own_line trace queued e y.one (shows.sound y.place y.one y.at).1 (ap (moves_own_line y.one) f ∙ y.passes)).1

        from : moves_line trace e.step ≡ true → moves_line_by lives e.step ≡ true
        from t =
            let m : MayStep trace p c e.step e.effect.note = may.step p c of in
            let l : Live = record { spe = p; cmd = c; progress = m.progress } in
            let g = shows.full p c m.progress (ap spe_in f) m.has m.live in
            ap (moves_line_by lives) f ∙ pick (λ l. moves_own_line l (Piece p c x k)) lives g.0 l g.1 (sym (ap (moves_own_line l) f) ∙ line_own trace queued e p c m.progress m.has of t)

    by : (s : Step) → e.step ≡ s → moves_line_by lives e.step ≡ moves_line trace e.step
    by (Piece p c x k) f = piece p c x k f
    by (Exec p) f = ap (moves_line_by lives) f ∙ sym (ap (moves_line trace) f)
    by (Elem p c) f = ap (moves_line_by lives) f ∙ sym (ap (moves_line trace) f)
    by (Retire p c) f = ap (moves_line_by lives) f ∙ sym (ap (moves_line trace) f)
    by (Atomic p) f = ap (moves_line_by lives) f ∙ sym (ap (moves_line trace) f)
    by Host f = ap (moves_line_by lives) f ∙ sym (ap (moves_line trace) f)
