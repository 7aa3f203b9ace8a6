-- Ranges, one place after the other.
use Rattle.std.proofs.Common.{◌≡◌, ◌∙◌, ℕ, suc, ◌+◌, ◌<◌, ◌≤◌, Bool, List, [], ◌++◌, length, drop, drop-cons, get_or, Option, refl, sym, ap, arith, append_assoc}
use Rattle.std.proofs.lemmas.List.{nil_from_length, length-drop}
use Rattle.trace_commands.specs.declared.ranges.Layout.{Layout}
use Rattle.trace_commands.specs.Ranges.{mark_text, mark_last, end_of, ranges_from}

pub one_mark : (out new whole : List ℕ) (layout : Layout) (place i : ℕ) (last next : Option ℕ) (b d : Bool) (marks : List Bool) → i < length marks → b ≡ get_or marks i d → new ≡ out ++ mark_text layout last place b → next ≡ mark_last place b
    → out ++ ranges_from layout place last (drop i marks) ≡ whole → new ++ ranges_from layout (place + 1) next (drop (i + 1) marks) ≡ whole
unfolding ranges_from
one_mark out new whole layout place i last next b d marks lt same wrote went so_far =
    let one : suc i ≡ i + 1 = omega arith in
    let further : suc place ≡ place + 1 = omega arith in
    let rest = ranges_from layout (suc place) (mark_last place b) (drop (suc i) marks) in
    let here : ranges_from layout place last (drop i marks) ≡ mark_text layout last place b ++ rest = rw (drop-cons marks i d lt, ← same) refl in
    rw (← one, ← further, wrote, went) (append_assoc out (mark_text layout last place b) rest ∙ ap (λ t. out ++ t) (sym here) ∙ so_far)

pub all_marks : (out new whole : List ℕ) (layout : Layout) (place i : ℕ) (last : Option ℕ) (marks : List Bool) → length marks ≤ i → new ≡ out ++ end_of layout last
    → out ++ ranges_from layout place last (drop i marks) ≡ whole → new ≡ whole
unfolding ranges_from
all_marks out new whole layout place i last marks le wrote so_far =
    let none : drop i marks ≡ [] = nil_from_length (drop i marks) (omega (arith, length-drop i marks)) in
    wrote ∙ (rw none at so_far)
