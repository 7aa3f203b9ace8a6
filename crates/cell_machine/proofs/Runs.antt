-- Laws of runs: whether a machine can go on, and that nothing follows an end.
use Rattle.std.proofs.Common.{◌≡◌, ℕ, suc, ◌+◌, ◌<◌, ◌≤◌, Bool, true, false, List, [], ◌∷◌, ◌++◌, length, arith, refl, sym, subst, ◌∙◌, ap, length-append, append-nil}
use Rattle.std.specs.Prelude.{Option, Some, None, is_some, IsSome, IsSomeAnd, nat_lt, if◌then◌else◌, option_and_then}
use Rattle.std.proofs.lemmas.Bool.Decides.{nat_tests}
use mathlib.Core.List.{IsPrefix}
use Rattle.cell_base.specs.declared.steps.Step.{Step}
use Rattle.cell_machine.specs.declared.status.End.{End}
use Rattle.cell_machine.specs.declared.status.End.TheVariants.{AllStopped, Stuck, Budget}
use Rattle.cell_machine.specs.State.{State}
use Rattle.cell_machine.specs.Next.{next}
use Rattle.cell_machine.specs.Opening.{Opening, opening}
use Rattle.cell_machine.specs.Run.{Ran, replay, state_of, next_of, IsRun, IsEnd, EndsAs, HasEnd}
use Rattle.cell_machine.proofs.Replays.{run-length}
use Rattle.cell_machine.proofs.AnyStep.{next_of-within}

-- a step that is allowed is below the budget
gate-true : (b : Bool) (o : Option State) → IsSome (if b then o else None) → b ≡ true
gate-true true o h = refl
gate-true false o h = absurd (cc)

pub next_within : (m : Ran) (s : Step) → IsSome (next_of m s) → length m.steps < m.setup.budget
next_within m s h =
    let e : nat_lt (length m.steps) m.setup.budget ≡ true = gate-true (nat_lt (length m.steps) m.setup.budget) (option_and_then (λ M. next M s) (state_of m)) h in
    grind (arith, nat_tests)

-- a machine that allows a step under its budget has no end
pub open_of : (m : Ran) (s : Step) → IsSome (next_of m s) → EndsAs m None
open_of m s h = on (state_of m) refl
  where
    within : length m.steps < m.setup.budget
    within = next_within m s h

    gone : (o : Option State) → IsSome (if nat_lt (length m.steps) m.setup.budget then option_and_then (λ M. next M s) o else None) → IsSome (option_and_then (λ M. next M s) o)
    gone o g = let e : nat_lt (length m.steps) m.setup.budget ≡ true = grind (arith, nat_tests) in subst (λ (b : Bool). IsSome (if b then option_and_then (λ M. next M s) o else None)) e g

    on : (o : Option State) → state_of m ≡ o → IsSomeAnd o (λ M. IsEnd M m.setup.budget None)
    on None e = absurd (let g = subst (λ (o : Option State). IsSome (option_and_then (λ M. next M s) o)) e (gone (state_of m) h) in cc)
    on (Some M) e =
        let g : IsSome (next M s) = subst (λ (o : Option State). IsSome (option_and_then (λ M. next M s) o)) e (gone (state_of m) h) in
        let l = run-length m.setup m.steps M e in
        let w = within in
        ((s, g), omega arith)

-- and one that allows none has one
pub not_open : (m : Ran) → EndsAs m None → ((s : Step) → next_of m s ≡ None) → ⊥
not_open m ends none = on (state_of m) refl ends
  where
    on : (o : Option State) → state_of m ≡ o → IsSomeAnd o (λ M. IsEnd M m.setup.budget None) → ⊥
    on None e h = h
    on (Some M) e h =
        let l = run-length m.setup m.steps M e in
        let within : length m.steps < m.setup.budget = omega (arith, h.1) in
        let n : next M h.0.0 ≡ None = sym (next_of-within m M h.0.0 e within) ∙ none h.0.0 in
        let g : is_some (next M h.0.0) ≡ true = h.0.1 in
        cc

-- what follows in a record is made from the state before
through : (o : Option State) (xs ys : List Step) → ((N : State) → replay N (xs ++ ys) ≡ option_and_then (λ K. replay K ys) (replay N xs))
    → option_and_then (λ N. replay N (xs ++ ys)) o ≡ option_and_then (λ K. replay K ys) (option_and_then (λ N. replay N xs) o)
through None xs ys h = refl
through (Some N) xs ys h = h N

pub replay-append : (M : State) (xs ys : List Step) → replay M (xs ++ ys) ≡ option_and_then (λ N. replay N ys) (replay M xs)
replay-append M [] ys = refl
replay-append M (s ∷ xs) ys = through (next M s) xs ys (λ N. replay-append N xs ys)

-- no step follows a beginning that has an end
end-stops : (M : State) (budget : ℕ) (e : End) (s : Step) (later : List Step) → IsEnd M budget (Some e) → IsSome (replay M (s ∷ later)) → length M.steps + suc (length later) ≤ budget → ⊥
end-stops M budget AllStopped s later h r l = let n = h.0 s in on (next M s) n r
  where
    on : (o : Option State) → o ≡ None → IsSome (option_and_then (λ N. replay N later) o) → ⊥
    on None e g = absurd (cc)
    on (Some N) e g = absurd (cc)
end-stops M budget Stuck s later h r l = let n = h.0 s in on (next M s) n r
  where
    on : (o : Option State) → o ≡ None → IsSome (option_and_then (λ N. replay N later) o) → ⊥
    on None e g = absurd (cc)
    on (Some N) e g = absurd (cc)
end-stops M budget Budget s later h r l = absurd (omega (arith, h.1))

whole-end : (setup : Opening) (seen steps rest : List Step) (e : End) → IsRun setup steps → EndsAs (record { setup = setup; steps = seen }) (Some e) → seen ++ rest ≡ steps → seen ≡ steps
whole-end setup seen steps [] e is ended begins = sym (append-nil seen) ∙ begins
whole-end setup seen steps (s ∷ later) e is ended begins = absurd (on (replay (opening setup) seen) refl ended)
  where
    on : (o : Option State) → replay (opening setup) seen ≡ o → IsSomeAnd o (λ M. IsEnd M setup.budget (Some e)) → ⊥
    on None at h = h
    on (Some M) at h =
        let whole : replay (opening setup) steps ≡ replay M (s ∷ later) = ap (replay (opening setup)) (sym begins) ∙ replay-append (opening setup) seen (s ∷ later) ∙ ap (option_and_then (λ N. replay N (s ∷ later))) at in
        let long = run-length setup seen M at in
        let sum : length seen + suc (length later) ≡ length steps = sym (length-append seen (s ∷ later)) ∙ ap length begins in
        let few = is.1 in
        end-stops M setup.budget e s later h (subst (λ (o : Option State). IsSome o) whole is.0) (omega arith)

pub ended_is_whole : (m : Ran) (seen : List Step) (e : End) → IsRun m.setup m.steps → EndsAs (record m { steps = seen }) (Some e) → IsPrefix seen m.steps → seen ≡ m.steps
ended_is_whole m seen e is ended begins = whole-end m.setup seen m.steps begins.0 e is ended begins.1

-- a machine has one end
pub ends_once : (m : Ran) → EndsAs m None → HasEnd m → ⊥
ends_once m goes_on ended = on (state_of m) goes_on ended.1
  where
    goes : (M : State) → (s : Step) → IsSome (next M s) → next M s ≡ None → ⊥
    goes M s g n = absurd (cc)

    both : (M : State) (e : End) → IsEnd M m.setup.budget None → IsEnd M m.setup.budget (Some e) → ⊥
    both M AllStopped h k = goes M h.0.0 h.0.1 (k.0 h.0.0)
    both M Stuck h k = goes M h.0.0 h.0.1 (k.0 h.0.0)
    both M Budget h k = absurd (omega (arith, h.1, k.1))

    on : (o : Option State) → IsSomeAnd o (λ M. IsEnd M m.setup.budget None) → IsSomeAnd o (λ M. IsEnd M m.setup.budget (Some ended.0)) → ⊥
    on None h k = h
    on (Some M) h k = both M ended.0 h k
