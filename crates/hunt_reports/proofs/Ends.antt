-- The processors at the end, one after the other, and that a run has one end word.
use Rattle.std.proofs.Common.{◌≡◌, ℕ, zero, suc, ◌+◌, ◌<◌, ◌≤◌, List, [], ◌∷◌, ◌++◌, length, get_or, take, drop, drop-cons, map, refl, sym, ap, ◌∙◌, append_assoc, append-nil, arith, true≢false}
use Rattle.std.specs.Prelude.{Option, Some, None, IsSomeAnd, IsSome, slice_get}
use Rattle.std.specs.Option.{option_and_then}
use Rattle.std.proofs.lemmas.List.{nil_from_length, length-drop}
use Rattle.cell_machine.specs.declared.status.End.{End}
use Rattle.cell_machine.specs.declared.status.End.TheVariants.{AllStopped, Stuck, Budget}
use Rattle.cell_machine.specs.Next.{next}
use Rattle.cell_machine.specs.Spe.{Spe}
use Rattle.cell_machine.specs.State.{State}
use Rattle.cell_machine.specs.Run.{HasEnded, CanGoOn, IsEnd}
use Rattle.hunt_reports.specs.declared.ended.AtEnd.{AtEnd}
use Rattle.hunt_reports.specs.Endings.{ended_in, spe_ending, spe_endings}

-- ---- one end word

not_both : (M : State) → HasEnded M → CanGoOn M → ⊥
not_both M ended can = none (next M can.0) (ended can.0) can.1
  where
    none : {A : Type 0} (o : Option A) → o ≡ None → IsSome o → ⊥
    none None e some = true≢false (sym some)
    none (Some x) e some = absurd cc

pub one_end : (M : State) (budget : ℕ) (end : End) (other : Option End) → IsEnd M budget (Some end) → IsEnd M budget other → other ≡ Some end
one_end M budget AllStopped (Some AllStopped) a b = refl
one_end M budget AllStopped (Some Stuck) a b = absurd (true≢false (sym a.1 ∙ b.1))
one_end M budget AllStopped (Some Budget) a b = absurd (not_both M a.0 b.0)
one_end M budget AllStopped None a b = absurd (not_both M a.0 b.0)
one_end M budget Stuck (Some AllStopped) a b = absurd (true≢false (sym b.1 ∙ a.1))
one_end M budget Stuck (Some Stuck) a b = refl
one_end M budget Stuck (Some Budget) a b = absurd (not_both M a.0 b.0)
one_end M budget Stuck None a b = absurd (not_both M a.0 b.0)
one_end M budget Budget (Some AllStopped) a b = absurd (not_both M b.0 a.0)
one_end M budget Budget (Some Stuck) a b = absurd (not_both M b.0 a.0)
one_end M budget Budget (Some Budget) a b = refl
one_end M budget Budget None a b = absurd (omega (arith, a.1, b.1))

-- ---- the processors

pub ended_more : (spes : List Spe) (p : ℕ) (P : Spe) (e : AtEnd) → slice_get spes p ≡ Some P → e ≡ ended_in P → map ended_in (take p spes) ++ e ∷ [] ≡ map ended_in (take (p + 1) spes)
ended_more [] p P e at is = absurd cc
ended_more (Q ∷ spes) zero P e at is =
    let same : Q ≡ P = cc in
    ap (λ x. x ∷ []) (is ∙ ap ended_in (sym same))
ended_more (Q ∷ spes) (suc p) P e at is =
    let more : suc p + 1 ≡ suc (p + 1) = omega arith in
    rw more (ap (λ xs. ended_in Q ∷ xs) (ended_more spes p P e at is))

pub spe_at : (o : Option State) (p : ℕ) (A B : Spe → Type 0) (M : State) → o ≡ Some M → IsSomeAnd (option_and_then (λ N. slice_get N.spes p) o) A → IsSomeAnd (option_and_then (λ N. slice_get N.spes p) o) B
    → (P : Spe) × (slice_get M.spes p ≡ Some P) × A P × B P
spe_at o p A B M e a b = found (slice_get M.spes p) (rw e at a) (rw e at b)
  where
    found : (r : Option Spe) → IsSomeAnd r A → IsSomeAnd r B → (P : Spe) × (r ≡ Some P) × A P × B P
    found None a b = absurd a
    found (Some P) a b = (P, refl, a, b)

pub spes_more : (out whole : List ℕ) (d : AtEnd) (p i : ℕ) (es : List AtEnd) → i < length es → out ++ spe_endings p (drop i es) ≡ whole → (out ++ spe_ending p (get_or es i d)) ++ spe_endings (p + 1) (drop (i + 1) es) ≡ whole
unfolding spe_endings
spes_more out whole d p i es inside so_far =
    let one : suc p ≡ p + 1 = omega arith in
    let next : suc i ≡ i + 1 = omega arith in
    let here : out ++ spe_endings p (drop i es) ≡ (out ++ spe_ending p (get_or es i d)) ++ spe_endings (suc p) (drop (suc i) es)
    = rw (drop-cons es i d inside) (sym (append_assoc out (spe_ending p (get_or es i d)) (spe_endings (suc p) (drop (suc i) es)))) in
    rw (← one, ← next) (sym here ∙ so_far)

pub spes_all : (out whole : List ℕ) (p i : ℕ) (es : List AtEnd) → length es ≤ i → out ++ spe_endings p (drop i es) ≡ whole → out ≡ whole
unfolding spe_endings
spes_all out whole p i es past so_far =
    let none : drop i es ≡ [] = nil_from_length (drop i es) (omega (arith, length-drop i es)) in
    sym (append-nil out) ∙ (rw none at so_far)

-- what holds of the state holds of this one
pub of_state : (o : Option State) (A : State → Type 0) (M : State) → o ≡ Some M → IsSomeAnd o A → A M
of_state o A M is h = rw is at h

pub take_past : {X : Type 0} (xs : List X) (i : ℕ) → length xs ≤ i → take i xs ≡ xs
take_past [] zero past = refl
take_past [] (suc i) past = refl
take_past (x ∷ xs) zero past = absurd (omega (arith, past))
take_past (x ∷ xs) (suc i) past = ap (λ ys. x ∷ ys) (take_past xs i (omega (arith, past)))

-- the state of a run
pub state_there : (o : Option State) (A : State → Type 0) → IsSomeAnd o A → (M : State) × (o ≡ Some M) × A M
state_there None A a = absurd a
state_there (Some M) A a = (M, refl, a)
