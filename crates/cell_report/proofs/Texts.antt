-- Registers and processors, one after the other.
use Rattle.std.proofs.Common.{◌≡◌, ℕ, zero, suc, ◌+◌, ◌<◌, ◌≤◌, List, [], ◌∷◌, ◌++◌, length, get_or, drop, drop-cons, refl, sym, ap, ◌∙◌, append_assoc, arith}
use Rattle.std.specs.Prelude.{Option, Some, None, IsSomeAnd, slice_get, Result, Ok, Err, OnOk}
use Rattle.std.specs.Option.{option_and_then}
use Rattle.std.specs.List.{flat_map}
use Rattle.cell_machine.specs.declared.status.End.{End}
use Rattle.cell_machine.specs.Run.{IsEnd}
use Rattle.cell_machine.specs.declared.setup.Show.{Show}
use Rattle.cell_machine.specs.Spe.{Spe}
use Rattle.cell_machine.specs.State.{State}
use Rattle.cell_machine.specs.Moves.{outstanding}
use Rattle.std.proofs.lemmas.List.{append-nil, nil_from_length, length-drop, take_more}
use Rattle.std.proofs.lemmas.Grind.{flat_map-append}
use Rattle.std.specs.Prelude.{take}
use Rattle.state_lines.specs.Lines.{end_line, spe_line, show_line}
use Rattle.cell_report.specs.States.{nonzero_line, register_lines, spe_text, spes_text, host_text, states_of}

pub one_register : (out whole d : List ℕ) (r i : ℕ) (qs : List (List ℕ)) → i < length qs → out ++ register_lines r (drop i qs) ≡ whole → (out ++ nonzero_line r (get_or qs i d)) ++ register_lines (r + 1) (drop (i + 1) qs) ≡ whole
unfolding register_lines
one_register out whole d r i qs lt so_far =
    let one : suc r ≡ r + 1 = omega arith in
    let next : suc i ≡ i + 1 = omega arith in
    let here : out ++ register_lines r (drop i qs) ≡ (out ++ nonzero_line r (get_or qs i d)) ++ register_lines (suc r) (drop (suc i) qs) = rw (drop-cons qs i d lt) (sym (append_assoc out (nonzero_line r (get_or qs i d)) (register_lines (suc r) (drop (suc i) qs)))) in
    rw (← one, ← next) (sym here ∙ so_far)

pub no_register : (out whole : List ℕ) (r i : ℕ) (qs : List (List ℕ)) → length qs ≤ i → out ++ register_lines r (drop i qs) ≡ whole → out ≡ whole
unfolding register_lines
no_register out whole r i qs le so_far =
    let none : drop i qs ≡ [] = nil_from_length (drop i qs) (omega (arith, length-drop i qs)) in
    sym (append-nil out) ∙ (rw none at so_far)

-- the lines of a processor, behind its own
pub spe_written : {X E : Type 0} (r : Result X E) (o : Option Spe) (registers : List (List ℕ)) (out made new : List ℕ) (p : ℕ)
    → IsSomeAnd o (λ P. made ≡ out ++ spe_line p P.status P.pc (length (outstanding P))) → IsSomeAnd o (λ P. P.registers ≡ registers)
    → OnOk r (new ≡ made ++ register_lines 0 registers) → OnOk r (IsSomeAnd o (λ P. new ≡ out ++ spe_text p P))
spe_written (Ok x) None registers out made new p line own wrote = absurd line
spe_written (Ok x) (Some P) registers out made new p line own wrote =
    wrote ∙ ap (λ t. t ++ register_lines 0 registers) line ∙ append_assoc out (spe_line p P.status P.pc (length (outstanding P))) (register_lines 0 registers)
    ∙ ap (λ rs. out ++ (spe_line p P.status P.pc (length (outstanding P)) ++ register_lines 0 rs)) (sym own)
spe_written (Err e) o registers out made new p line own wrote = wrote

-- the end word, the processors, the host and the ranges
pub states_written : (o : Option State) (budget : ℕ) (end : Option End) (shows : List Show) (first second third new : List ℕ)
    → IsSomeAnd o (λ M. IsEnd M budget end) → first ≡ [] ++ end_line end → IsSomeAnd o (λ M. second ≡ first ++ spes_text 0 M.spes) → ((M : State) → o ≡ Some M → third ≡ second ++ host_text M.host)
    → ((M : State) → o ≡ Some M → new ≡ third ++ flat_map (show_line M) shows)
    → IsSomeAnd o (λ M. (e : Option End) × IsEnd M budget e × (new ≡ states_of M shows e))
states_written None budget end shows first second third new is a b c d = absurd is
states_written (Some M) budget end shows first second third new is a b c d =
    (end, is, d M refl ∙ ap (λ t. t ++ flat_map (show_line M) shows) (c M refl ∙ ap (λ t. t ++ host_text M.host) (b ∙ ap (λ t. t ++ spes_text 0 M.spes) a)))

-- one line more
pub shows-more : (f : Show → List ℕ) (out made new : List ℕ) (own shows : List Show) (i : ℕ) (d : Show) → i < length own → own ≡ shows
    → made ≡ out ++ flat_map f (take i shows) → new ≡ made ++ f (get_or own i d) → new ≡ out ++ flat_map f (take (i + 1) shows)
shows-more f out made new own shows i d inside same before wrote =
    let s = get_or own i d in
    let more : take (i + 1) shows ≡ take i shows ++ s ∷ [] = rw (← same) (take_more own i d inside) in
    wrote ∙ ap (λ t. t ++ f s) before ∙ append_assoc out (flat_map f (take i shows)) (f s)
    ∙ ap (λ t. out ++ t) (ap (λ t. flat_map f (take i shows) ++ t) (sym (append-nil (f s))) ∙ sym (flat_map-append f (take i shows) (s ∷ [])) ∙ ap (flat_map f) (sym more))

-- what holds of the state holds of this one
pub of_state : (o : Option State) (A : State → Type 0) (M : State) → o ≡ Some M → IsSomeAnd o A → A M
of_state o A M is h = rw is at h

-- the processor at a place of a list
pub spe_there : (o : Option State) (p : ℕ) (A : Spe → Type 0) (M : State) → o ≡ Some M → IsSomeAnd (option_and_then (λ N. slice_get N.spes p) o) A → (P : Spe) × (slice_get M.spes p ≡ Some P) × A P
spe_there o p A M e h = found (slice_get M.spes p) (rw e at h)
  where
    found : (r : Option Spe) → IsSomeAnd r A → (P : Spe) × (r ≡ Some P) × A P
    found None a = absurd a
    found (Some P) a = (P, refl, a)

pub spes_one : (out whole : List ℕ) (p i : ℕ) (P : Spe) (spes : List Spe) → slice_get spes i ≡ Some P → out ++ spes_text p (drop i spes) ≡ whole → (out ++ spe_text p P) ++ spes_text (p + 1) (drop (i + 1) spes) ≡ whole
unfolding spes_text
spes_one out whole p i P [] at so_far = absurd cc
spes_one out whole p zero P (Q ∷ spes) at so_far =
    let one : suc p ≡ p + 1 = omega arith in
    let same : Q ≡ P = cc in
    rw (← one, ← same) (append_assoc out (spe_text p Q) (spes_text (suc p) spes) ∙ so_far)
spes_one out whole p (suc i) P (Q ∷ spes) at so_far =
    let e : suc i + 1 ≡ suc (i + 1) = omega arith in
    rw e (spes_one out whole p i P spes at so_far)

pub spes_none : (out whole : List ℕ) (p i : ℕ) (spes : List Spe) → length spes ≤ i → out ++ spes_text p (drop i spes) ≡ whole → out ≡ whole
unfolding spes_text
spes_none out whole p i spes le so_far =
    let none : drop i spes ≡ [] = nil_from_length (drop i spes) (omega (arith, length-drop i spes)) in
    sym (append-nil out) ∙ (rw none at so_far)

pub on_ok : {A E : Type 0} (r : Result A E) (P Q : Type 0) → (P → Q) → OnOk r P → OnOk r Q
on_ok (Ok x) P Q k h = k h
on_ok (Err e) P Q k h = h

-- what holds of the value where another fact does
pub some_of : {X : Type 0} (o : Option X) (A B : X → Type 0) → ((x : X) → o ≡ Some x → A x → B x) → IsSomeAnd o A → IsSomeAnd o B
some_of None A B k a = absurd a
some_of (Some x) A B k a = k x refl a
