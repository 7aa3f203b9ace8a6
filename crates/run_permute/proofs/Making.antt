-- The steps at the places of an order, one by one.
use Rattle.std.proofs.Common.{◌≡◌, ℕ, zero, suc, ◌+◌, ◌<◌, List, [], ◌∷◌, ◌++◌, length, take, get_or, refl, sym, ap, ap₂, ◌∙◌, subst, arith, inl, inr, Option, Some, None}
use Rattle.std.specs.Prelude.{slice_get, IsSome}
use Rattle.std.proofs.lemmas.List.{take_more}
use Rattle.std.proofs.lemmas.List.Elements.{filter_map-append}
use Rattle.std.proofs.lemmas.Option.{slice_get-get_or}
use Rattle.cell_base.specs.declared.steps.Step.{Step}
use Rattle.cell_machine.specs.Limits.{IsOpening}
use Rattle.cell_machine.specs.Opening.{Opening}
use Rattle.cell_machine.specs.Run.{Ran, IsRun, next_of, replay, state_of}
use Rattle.race_check.specs.Races.{IsVerdict}
use Rattle.race_check.specs.Reorderings.{at_places, IsReordering, KeepsOrder}
use Rattle.race_check.specs.declared.check.Verdict.TheVariants.{Accepted}
use Rattle.race_check.proofs.Prefixes.{may-make, run-told}
use Rattle.race_order.specs.Told.{trace_in}
use Rattle.race_order.specs.Trace.{Trace}
use Rattle.race_order.proofs.OrderedRuns.{trace-is, trace-long}
use Rattle.cell_machine.specs.Opening.{opening}
use Rattle.reorder_laws.specs.OrderedLaws.{IsOrdered}
use Rattle.reorder_laws.specs.Settled.{IsSettled}
use Rattle.reorder_laws.specs.Theorem.{EveryReorderingIsARun, IsRunAgain}
use Rattle.reorder_laws.proofs.Whole.{settled-runs-reorder}
use Rattle.run_permute.specs.SettledLists.{IsIn}
use Rattle.run_permute.specs.Nth.{EndsAlike, IsNth}
use Rattle.run_permute.proofs.Nths.{nth-keeps-order}

one-place : {X : Type 0} (xs : List X) (i : ℕ) (x : X) → slice_get xs i ≡ Some x → at_places xs (i ∷ []) ≡ x ∷ []
one-place xs i x at = rw at refl

-- the steps at the first places are the first steps
pub places-take : {X : Type 0} (xs : List X) (order : List ℕ) (k : ℕ) → ((i : ℕ) → IsIn i order → i < length xs) → take k (at_places xs order) ≡ at_places xs (take k order)
places-take xs [] zero inside = refl
places-take xs [] (suc k) inside = refl
places-take xs (i ∷ order) zero inside = refl
places-take {X} xs (i ∷ order) (suc k) inside = on (slice_get xs i) refl (places-take xs order k (λ j h. inside j (inr h)))
  where
    none : {Y : Type 0} (ys : List Y) (i : ℕ) → i < length ys → slice_get ys i ≡ None → ⊥
    none [] i low e = absurd (omega arith)
    none (y ∷ ys) zero low e = absurd (cc)
    none (y ∷ ys) (suc i) low e = none ys i (omega arith) e

    on : (o : Option X) → slice_get xs i ≡ o → take k (at_places xs order) ≡ at_places xs (take k order) → take (suc k) (at_places xs (i ∷ order)) ≡ at_places xs (i ∷ take k order)
    on None e rest = absurd (none xs i (inside i (inl refl)) e)
    on (Some x) e rest = rw e (ap (λ ys. x ∷ ys) rest)

-- the step at a place of the order
pub places-at : {X : Type 0} (xs : List X) (order : List ℕ) (k i : ℕ) (x : X) → ((i : ℕ) → IsIn i order → i < length xs) → slice_get order k ≡ Some i → slice_get xs i ≡ Some x → slice_get (at_places xs order) k ≡ Some x
places-at xs [] k i x inside at is = absurd (cc)
places-at {X} xs (j ∷ order) zero i x inside at is = let same : slice_get xs j ≡ Some x = ap (slice_get xs) (same-some j i at) ∙ is in rw same refl
  where
    same-some : (a b : ℕ) → Some a ≡ Some b → a ≡ b
    same-some a b e = cc
places-at {X} xs (j ∷ order) (suc k) i x inside at is = rw (slice_get-get_or xs j x (inside j (inl refl))) (places-at xs order k i x (λ a h. inside a (inr h)) at is)

-- one step more of those in the order
pub made-more : (setup : Opening) (steps : List Step) (order : List ℕ) (k : ℕ) (s : Step) → k < length order → slice_get steps (get_or order k 0) ≡ Some s → at_places steps (take (k + 1) order) ≡ at_places steps (take k order) ++ s ∷ []
made-more setup steps order k s low at =
    ap (at_places steps) (take_more order k 0 low) ∙ filter_map-append (slice_get steps) (take k order) (get_or order k 0 ∷ []) ∙ ap (λ ys. at_places steps (take k order) ++ ys) (one-place steps (get_or order k 0) s at)

-- it is allowed
pub may-go-on : (setup : Opening) (steps : List Step) (order : List ℕ) (k : ℕ) (s : Step) (before : Ran) → IsRun setup (at_places steps order) → ((i : ℕ) → IsIn i order → i < length steps) → k < length order
    → before ≡ record { setup = setup; steps = at_places steps (take k order) } → slice_get steps (get_or order k 0) ≡ Some s → IsSome (next_of before s)
may-go-on setup steps order k s before run inside low made at =
    let r : Ran = record { setup = setup; steps = at_places steps order } in
    may-make r k s before run (made ∙ ap (λ (xs : List Step). let m : Ran = record { setup = setup; steps = xs } in m) (sym (places-take steps order k inside))) (places-at steps order k (get_or order k 0) s inside (slice_get-get_or order k 0 low) at)

-- ---- the reordering of a number is a run, and ends alike

pub nth-again : (m : Ran) (number : ℕ) (order : List ℕ) → IsOpening m.setup → IsRun m.setup m.steps → IsVerdict m Accepted → IsSettled m → IsNth m number order → IsRunAgain m order
nth-again m number order opens run accepted settled nth = on (settled-runs-reorder m opens run accepted settled)
  where
    keeps : KeepsOrder (IsOrdered m) (length m.steps) order
    keeps = nth-keeps-order (IsOrdered m) (length m.steps) number order nth

    on : EveryReorderingIsARun m → IsRunAgain m order
    on e =
        let same : trace_in m ≡ e.trace = trace-is m e.trace e.is in
        let long : length (trace_in m) ≡ length m.steps = trace-long (opening m.setup) m.steps (trace_in m) (run-told m run) in
        let reordering : IsReordering (trace_in m) order = subst (λ n. KeepsOrder (IsOrdered m) n order) (sym long) keeps in
        e.again order (subst (λ (t : Trace). IsReordering t order) same reordering)

pub ends-alike : (m : Ran) (order : List ℕ) (x : Ran) → IsRunAgain m order → x.setup ≡ m.setup → x.steps ≡ at_places m.steps order → EndsAlike m x
ends-alike m order x again setup steps =
    let same : state_of x ≡ replay (opening m.setup) (at_places m.steps order) = ap₂ (λ S steps. replay (opening S) steps) setup steps in
    λ M N is leads. again.ends M N is (sym same ∙ leads)
