-- The processors that run, one after the other.
use Rattle.std.proofs.Common.{◌∷◌, ◌≡◌, ℕ, suc, ◌+◌, ◌<◌, ◌≤◌, List, [], ◌++◌, length, length-append, get_or, drop, drop-cons, sym, ap, subst, ◌∙◌, append_assoc, append-nil, arith}
use Rattle.std.specs.Prelude.{All}
use Rattle.std.proofs.lemmas.List.{nil_from_length, length-drop}
use Rattle.std.proofs.lemmas.List.Elements.{All-append, All-cons, All-nil, All-weaker}
use Rattle.cell_machine.specs.declared.status.Status.{Status}
use Rattle.cell_machine.specs.declared.status.Status.TheVariants.{Running, Stopped, Halted, BadWord, BadChannel, DmaFault}
use Rattle.hunt_reports.specs.declared.ended.AtEnd.{AtEnd}
use Rattle.hunt_reports.specs.declared.locations.Location.{Location}
use Rattle.hunt_reports.specs.Waits.{running_at, running_from}

one_at_most : (p pc : ℕ) (status : Status) → length (running_at p pc status) ≤ 1
one_at_most p pc Running = omega arith
one_at_most p pc (Stopped code) = omega arith
one_at_most p pc Halted = omega arith
one_at_most p pc BadWord = omega arith
one_at_most p pc BadChannel = omega arith
one_at_most p pc (DmaFault kind) = omega arith

pub few_more : (out new : List Location) (p pc i : ℕ) (status : Status) → new ≡ out ++ running_at p pc status → length out ≤ i → length new ≤ i + 1
few_more out new p pc i status is few =
    let one = one_at_most p pc status in
    let all = ap length is ∙ length-append out (running_at p pc status) in
    omega (arith, one, all, few)

pub running_more : (out whole : List Location) (d : AtEnd) (p i : ℕ) (es : List AtEnd) → i < length es → out ++ running_from p (drop i es) ≡ whole
    → (out ++ running_at p (get_or es i d).pc (get_or es i d).status) ++ running_from (p + 1) (drop (i + 1) es) ≡ whole
unfolding running_from
running_more out whole d p i es inside so_far =
    let one : suc p ≡ p + 1 = omega arith in
    let next : suc i ≡ i + 1 = omega arith in
    let here : out ++ running_from p (drop i es) ≡ (out ++ running_at p (get_or es i d).pc (get_or es i d).status) ++ running_from (suc p) (drop (suc i) es)
    = rw (drop-cons es i d inside) (sym (append_assoc out (running_at p (get_or es i d).pc (get_or es i d).status) (running_from (suc p) (drop (suc i) es)))) in
    rw (← one, ← next) (sym here ∙ so_far)

pub running_all : (out whole : List Location) (p i : ℕ) (es : List AtEnd) → length es ≤ i → out ++ running_from p (drop i es) ≡ whole → out ≡ whole
unfolding running_from
running_all out whole p i es past so_far =
    let none : drop i es ≡ [] = nil_from_length (drop i es) (omega (arith, length-drop i es)) in
    sym (append-nil out) ∙ (rw none at so_far)

-- their numbers
one_within : (p pc : ℕ) (status : Status) → All (λ (l : Location). l.spe < suc p) (running_at p pc status)
one_within p pc Running = All-cons (λ (l : Location). l.spe < suc p) (record { spe = p; at = pc }) [] (omega arith) (All-nil (λ (l : Location). l.spe < suc p))
one_within p pc (Stopped code) = All-nil (λ (l : Location). l.spe < suc p)
one_within p pc Halted = All-nil (λ (l : Location). l.spe < suc p)
one_within p pc BadWord = All-nil (λ (l : Location). l.spe < suc p)
one_within p pc BadChannel = All-nil (λ (l : Location). l.spe < suc p)
one_within p pc (DmaFault kind) = All-nil (λ (l : Location). l.spe < suc p)

pub running_within : (p : ℕ) (es : List AtEnd) → All (λ (l : Location). l.spe < p + length es) (running_from p es)
unfolding running_from
running_within p [] = All-nil (λ (l : Location). l.spe < p + 0)
running_within p (e ∷ es) =
    let one : suc p + length es ≡ p + suc (length es) = omega arith in
    All-append (λ (l : Location). l.spe < p + suc (length es)) (running_at p e.pc e.status) (running_from (suc p) es)
    (All-weaker (λ (l : Location). l.spe < suc p) (λ (l : Location). l.spe < p + suc (length es)) (λ l h. omega (arith, h)) (running_at p e.pc e.status) (one_within p e.pc e.status))
    (subst (λ n. All (λ (l : Location). l.spe < n) (running_from (suc p) es)) one (running_within (suc p) es))

pub running_below : (es : List AtEnd) → All (λ (l : Location). l.spe < length es) (running_from 0 es)
running_below es =
    let same : 0 + length es ≡ length es = omega arith in
    subst (λ n. All (λ (l : Location). l.spe < n) (running_from 0 es)) same (running_within 0 es)
