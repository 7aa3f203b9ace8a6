-- Spans of lines, from their front on.
use Rattle.std.proofs.Common.{◌≡◌, ℕ, zero, suc, ◌<◌, length, get_or, arith, true, false, List, [], ◌∷◌, ◌++◌, Option, None, Some, option_to_list, refl, sym, ap, ◌∙◌, append_assoc}
use Rattle.std.specs.Prelude.{slice_get}
use Rattle.hunt_tally.specs.declared.coverage.LineCoverage.{LineCoverage}
use Rattle.hunt_texts.specs.declared.unexecuted.Span.{Span}
use Rattle.hunt_texts.specs.Unexecuted.{grown, spans_from}

-- the first line was executed
pub line_executed : (begun : Option Span) (spans new all : List Span) (l : LineCoverage) (lines rest : List LineCoverage) → lines ≡ l ∷ rest → l.executed ≡ true
    → new ≡ spans ++ option_to_list begun → spans ++ spans_from begun lines ≡ all → new ++ spans_from None rest ≡ all
unfolding spans_from
line_executed begun spans new all l lines rest e is more so_far =
    let here : spans_from begun (l ∷ rest) ≡ option_to_list begun ++ spans_from None rest = rw is refl in
    ap (λ xs. xs ++ spans_from None rest) more ∙ append_assoc spans (option_to_list begun) (spans_from None rest)
    ∙ ap (λ xs. spans ++ xs) (sym here ∙ ap (spans_from begun) (sym e)) ∙ so_far

-- it wasn't
pub line_missed : (begun : Option Span) (s : Span) (spans all : List Span) (l : LineCoverage) (lines rest : List LineCoverage) → lines ≡ l ∷ rest → l.executed ≡ false
    → s ≡ grown begun l.number → spans ++ spans_from begun lines ≡ all → spans ++ spans_from (Some s) rest ≡ all
unfolding spans_from
line_missed begun s spans all l lines rest e is one so_far =
    let here : spans_from begun (l ∷ rest) ≡ spans_from (Some (grown begun l.number)) rest = rw is refl in
    ap (λ t. spans ++ spans_from (Some t) rest) one ∙ ap (λ xs. spans ++ xs) (sym here ∙ ap (spans_from begun) (sym e)) ∙ so_far

-- no line is left
pub lines_end : (begun : Option Span) (spans new all : List Span) (lines : List LineCoverage) → lines ≡ [] → new ≡ spans ++ option_to_list begun → spans ++ spans_from begun lines ≡ all → new ≡ all
unfolding spans_from
lines_end begun spans new all lines e more so_far = more ∙ ap (λ xs. spans ++ spans_from begun xs) (sym e) ∙ so_far

-- the element at a place
pub element_at : {X : Type 0} (xs : List X) (i : ℕ) (d : X) → i < length xs → slice_get xs i ≡ Some (get_or xs i d)
element_at [] i d inside = absurd (omega (arith, inside))
element_at (x ∷ xs) zero d inside = refl
element_at (x ∷ xs) (suc i) d inside = element_at xs i d (omega (arith, inside))
