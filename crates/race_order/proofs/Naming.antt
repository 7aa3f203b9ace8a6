-- What names a step in a set: with what is known before the step, it is the past of the step.
use Rattle.std.proofs.Common.{◌≡◌, ℕ, suc, ◌+◌, ◌*◌, ◌<◌, ◌≤◌, ◌==◌, Bool, true, false, ◌||◌, List, [], ◌∷◌, ◌++◌, length, take, Some, ◌⊎◌, inl, inr, refl, sym, ap, ap₂, ◌∙◌, subst, subst₂, arith}
use Rattle.std.specs.Prelude.{slice_get}
use Rattle.std.proofs.lemmas.Bool.{cases_lt, or_cases, or_left, or_right, and_from, and_parts, eqb-true, eq-eqb}
use Rattle.std.proofs.lemmas.Option.{slice_get_within}
use Rattle.order_sets.specs.declared.facts.At.{At}
use Rattle.order_sets.specs.declared.facts.Fact.{Fact}
use Rattle.order_sets.specs.declared.facts.Fact.TheVariants.{Whole}
use Rattle.order_sets.specs.Facts.{covers}
use Rattle.cell_base.specs.declared.steps.Step.{Step}
use Rattle.cell_base.specs.declared.steps.Step.TheVariants.{Exec, Piece, Elem, Retire, Atomic, Host}
use Rattle.race_order.specs.Trace.{Event, Trace, IsStepOf, is_of}
use Rattle.race_order.specs.Rules.{Ordered}
use Rattle.race_order.specs.StatusRules.{Rule}
use Rattle.race_order.specs.declared.progress.Progress.{Progress}
use Rattle.race_order.specs.Status.{is_by, has_one_piece}
use Rattle.race_order.specs.Queue.{Has}
use Rattle.race_order.specs.Stamps.{stamp, chain_of, cmd_of, IsStamp}
use Rattle.race_order.specs.Roles.{fact_in, fact_of}
use Rattle.race_order.specs.Orderly.{IsOrderly, IsWithin}
use Rattle.race_order.specs.Premises.{IsQueued}
use Rattle.race_order.specs.Pasts.{Past, Holds, IsPast, Over}
use Rattle.race_order.specs.Ordering.{spe_in}
use Rattle.race_order.specs.declared.lives.Live.{Live}
use Rattle.race_order.specs.Lives.{is_only_piece, is_only_step}
use Rattle.race_order.proofs.Places.{get_last, longer, take_before, take_whole}
use Rattle.race_order.proofs.Histories.{same_progress, Later, later_at}
use Rattle.race_order.proofs.Elements.{may_at}
use Rattle.race_order.proofs.Queues.{no_step_after}
use Rattle.race_order.proofs.PastLaws.{chain_queue}
use Rattle.race_order.proofs.WholeLines.{IsDone, only_done}
use Rattle.race_order.proofs.Passed.{Picked, picked}
use Rattle.race_order.proofs.LivesNext.{ShowsNear}
use Rattle.race_order.proofs.Answering.{by_plain, made}
use Rattle.race_order.proofs.Advance.{Answers, last_stamp, point}

-- the fact names the step e after trace: by itself, or by its command, which has no other step
pub data Names (n : ℕ) (trace : Trace) (e : Event) (f : Fact) : Type 0 where
  ByStep : f ≡ fact_of n (length trace) e → Names n trace e f
  ByCommand : (p c x k : ℕ) → e.step ≡ Piece p c x k → (s : Progress) → Has trace p c s → has_one_piece s.command ≡ true → f ≡ Whole (2 * n + p) c → Names n trace e f

-- the outstanding commands of its processor say which
pub fact_names : (n : ℕ) (trace : Trace) (e : Event) (lives : List Live) → ShowsNear (spe_in e.step) lives trace → Names n trace e (fact_in n (is_only_step lives e.step) (stamp n (length trace) e) e.step)
fact_names n trace e lives shows = by (is_only_step lives e.step) refl
  where
    named : (only : Bool) → Fact
    named only = fact_in n only (stamp n (length trace) e) e.step

    never : false ≡ true → ⊥
    never x = cc

    by : (only : Bool) → is_only_step lives e.step ≡ only → Names n trace e (fact_in n only (stamp n (length trace) e) e.step)
    by false q = ByStep refl
    by true q = only e.step refl
      where
        only : (s : Step) → e.step ≡ s → Names n trace e (Whole (chain_of n e.step) (cmd_of e.step))
        only (Piece p c x k) f =
            let y : Picked (is_only_piece p c) lives = picked (is_only_piece p c) lives (sym (ap (is_only_step lives) f) ∙ q) in
            let a = and_parts (is_by y.one.spe y.one.cmd p c) (has_one_piece y.one.progress.command) y.passes in
            let b = and_parts (p == y.one.spe) (c == y.one.cmd) a.0 in
            let has : Has trace p c y.one.progress = subst₂ (λ u v. Has trace u v y.one.progress) (sym (eqb-true p y.one.spe b.0)) (sym (eqb-true c y.one.cmd b.1)) (shows.sound y.place y.one y.at).1 in
            ByCommand p c x k f y.one.progress has a.1 (ap₂ Whole (ap (chain_of n) f) (ap cmd_of f))
        only (Exec p) f = absurd (never (sym (ap (is_only_step lives) f) ∙ q))
        only (Elem p c) f = absurd (never (sym (ap (is_only_step lives) f) ∙ q))
        only (Retire p c) f = absurd (never (sym (ap (is_only_step lives) f) ∙ q))
        only (Atomic p) f = absurd (never (sym (ap (is_only_step lives) f) ∙ q))
        only Host f = absurd (never (sym (ap (is_only_step lives) f) ∙ q))

module _ (n : ℕ) (trace : Trace) (e : Event) (orderly : IsOrderly n (trace ++ (e ∷ []))) (queued : IsQueued (trace ++ (e ∷ []))) (known : At → Bool) (answers : Answers Rule by_plain n (IsPast n) (made n) trace e orderly known) where
  abbrev T : Trace
  T = trace ++ (e ∷ [])

  long : length T ≡ length trace + 1
  long = longer trace e

  here : slice_get T (length trace) ≡ Some e
  here = get_last trace e

  front : take (length trace) T ≡ trace
  front = take_before trace e

  abbrev OfStep : (At → Bool) → Type 0
  OfStep s = Holds Rule n (IsPast n) T s (λ k. k ≡ length trace)

  module _ (p c x y : ℕ) (is : e.step ≡ Piece p c x y) (s : Progress) (has : Has trace p c s) (one : has_one_piece s.command ≡ true) where
    low : p < n
    low = subst (IsWithin n) is (orderly (length trace) e here).within

    last_of : IsStepOf T (length trace) p c
    last_of = record { event = e; at = here; is = ap (is_of p c) is ∙ and_from _ _ (eq-eqb p p refl) (eq-eqb c c refl) }

    has_front : Has (take (length trace) T) p c s
    has_front = subst (λ t. Has t p c s) (sym front) has

    complete : IsDone T p c
    complete =
        let next : suc (length trace) ≡ length trace + 1 = omega arith in
        subst (λ t. IsDone t p c) (ap (λ k. take k T) next ∙ take_whole trace e) (only_done T queued p c (length trace) last_of s has_front one)

    -- no step before it is one of the command
    only_place : (i : ℕ) → IsStepOf T i p c → i ≡ length trace
    only_place i st = by (cases_lt i (length trace))
      where
        by : (i < length trace) ⊎ (length trace ≤ i) → i ≡ length trace
        by (inr high) = let l : length T ≡ length trace + 1 = long in let k : i < length T = slice_get_within T i st.event st.at in omega arith
        by (inl less) =
            let m = may_at T queued i p c st in
            let l : Later (take (length trace) T) p c m.progress = later_at T p c i (length trace) m.progress (omega arith) (let k : length T ≡ length trace + 1 = long in omega arith) m.has in
            let same : s.command ≡ m.progress.command = ap (λ (v : Progress). v.command) (same_progress (take (length trace) T) p c s l.progress has_front l.has) ∙ l.grows.command in
            let d : IsDone (take (suc i) T) p c = only_done T queued p c i st m.progress m.has (subst (λ v. has_one_piece v ≡ true) same one) in
            let after : length trace < suc i = no_step_after T queued (length trace) (suc i) p c d.progress d.has d.done last_of in
            absurd (omega arith)

    pub command_point : OfStep (λ a. known a || covers (Whole (2 * n + p) c) a)
    command_point =
        record {
          inside = λ k u. let l : length T ≡ length trace + 1 = long in omega arith;
          sound = λ i a st u. sound i a st (or_cases _ _ u);
          full = λ i a st v. full i a st v.source v.is v.ordered;
          old = λ a u. old a (or_cases _ _ u);
        }
      where
        sound : (i : ℕ) (a : At) → IsStamp n T i a → (known a ≡ true) ⊎ (covers (Whole (2 * n + p) c) a ≡ true) → Past Rule T (λ k. k ≡ length trace) i
        sound i a st (inl u) = record { source = length trace; is = refl; ordered = inr (answers.sound i a st u) }
        sound i a st (inr u) =
            let h = and_parts (a.chain == 2 * n + p) (a.cmd == c) u in
            let chain : chain_of n st.event.step ≡ 2 * n + p = sym (ap (λ (v : At). v.chain) st.is) ∙ eqb-true _ _ h.0 in
            let cmd : cmd_of st.event.step ≡ c = sym (ap (λ (v : At). v.cmd) st.is) ∙ eqb-true _ _ h.1 in
            let of : is_of p c st.event.step ≡ true = subst (λ d. is_of p d st.event.step ≡ true) cmd (chain_queue n p st.event.step (orderly i st.event st.at).within low chain) in
            record { source = length trace; is = refl; ordered = inl (only_place i record { event = st.event; at = st.at; is = of }) }

        itself : covers (Whole (2 * n + p) c) (stamp n (length trace) e) ≡ true
        itself = and_from _ _ (eq-eqb (chain_of n e.step) (2 * n + p) (ap (chain_of n) is)) (eq-eqb (cmd_of e.step) c (ap cmd_of is))

        full : (i : ℕ) (a : At) → IsStamp n T i a → (k : ℕ) → k ≡ length trace → (i ≡ k) ⊎ Ordered Rule T i k → (known a || covers (Whole (2 * n + p) c) a) ≡ true
        full i a st k same (inl f) =
            or_right _ _
            (subst (λ v. covers (Whole (2 * n + p) c) v ≡ true) (sym (last_stamp Rule by_plain n (IsPast n) (made n) trace e orderly a (subst (λ j. IsStamp n T j a) (f ∙ same) st))) itself)
        full i a st k same (inr o) = or_left _ _ (answers.full i a st (subst (Ordered Rule T i) same o))

        old : (a : At) → (known a ≡ true) ⊎ (covers (Whole (2 * n + p) c) a ≡ true) → IsPast n T a
        old a (inl u) = answers.old a u
        old a (inr u) =
            let h = and_parts (a.chain == 2 * n + p) (a.cmd == c) u in
            Over p complete.progress low (eqb-true _ _ h.0) (subst (λ d. Has T p d complete.progress) (sym (eqb-true _ _ h.1)) complete.has) (inl complete.done)

  -- with what names the step, what is known before it is the past of the step
  pub named_point : (f : Fact) → Names n trace e f → OfStep (λ a. known a || covers f a)
  named_point f (ByStep q) = subst (λ g. OfStep (λ a. known a || covers g a)) (sym q) (point Rule by_plain n (IsPast n) (made n) trace e orderly known answers)
  named_point f (ByCommand p c x y is s has one q) = subst (λ g. OfStep (λ a. known a || covers g a)) (sym q) (command_point p c x y is s has one)
