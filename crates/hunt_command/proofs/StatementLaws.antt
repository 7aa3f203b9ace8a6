-- Texts without blanks at their ends, and the statements of the lines of a text.
use Rattle.std.proofs.Common.{◌≡◌, ℕ, zero, suc, ◌+◌, ◌-◌, ◌<◌, ◌≤◌, true, false, List, [], ◌∷◌, ◌++◌, length, map, take, get_or, refl, sym, ap, ◌∙◌, append_assoc, append-nil, arith}
use Rattle.cell_base.specs.Words.{lines_of}
use Rattle.cell_base.proofs.WordLaws.{no_lines}
use Rattle.hunt_command.specs.Statements.{is_margin, with_front, without_back, statement_in, statements_in}

-- a blank at the end goes
pub back_more : (xs : List ℕ) (i : ℕ) → i < length xs → is_margin (get_or xs i 0) ≡ true → without_back (take (suc i) xs) ≡ without_back (take i xs)
unfolding without_back
back_more [] i inside margin = absurd (omega (arith, inside))
back_more (x ∷ xs) zero inside margin = rw margin refl
back_more (x ∷ xs) (suc i) inside margin = ap (with_front x) (back_more xs i (omega (arith, inside)) margin)

-- and all stays that ends with another byte
pub back_ends : (xs : List ℕ) (i : ℕ) → i < length xs → is_margin (get_or xs i 0) ≡ false → without_back (take (suc i) xs) ≡ take (suc i) xs
unfolding without_back
back_ends [] i inside other = absurd (omega (arith, inside))
back_ends (x ∷ xs) zero inside other = rw other refl
back_ends (x ∷ []) (suc i) inside other = absurd (omega (arith, inside))
back_ends (x ∷ y ∷ ys) (suc i) inside other = ap (with_front x) (back_ends (y ∷ ys) i (omega (arith, inside)) other)

-- the same by where the text ends
pub back_step : (xs : List ℕ) (end : ℕ) → 0 < end → end ≤ length xs → is_margin (get_or xs (end - 1) 0) ≡ true → without_back (take end xs) ≡ without_back (take (end - 1) xs)
back_step xs zero some within margin = absurd (omega (arith, some))
back_step xs (suc i) some within margin =
    let last : suc i - 1 ≡ i = omega arith in
    rw last (back_more xs i (omega (arith, within)) (rw last at margin))

pub back_stop : (xs : List ℕ) (end : ℕ) → 0 < end → end ≤ length xs → is_margin (get_or xs (end - 1) 0) ≡ false → without_back (take end xs) ≡ take end xs
back_stop xs zero some within other = absurd (omega (arith, some))
back_stop xs (suc i) some within other =
    let last : suc i - 1 ≡ i = omega arith in
    back_ends xs i (omega (arith, within)) (rw last at other)

back_none : without_back [] ≡ []
unfolding without_back
back_none = refl

-- nothing is left of a text of blanks
pub back_gone : (xs : List ℕ) (end : ℕ) → end ≤ 0 → without_back (take end xs) ≡ without_back xs → [] ≡ without_back xs
back_gone xs zero none so_far = sym back_none ∙ so_far
back_gone xs (suc i) none so_far = absurd (omega (arith, none))

-- the statement of one line more
pub statements_more : (made new : List (List ℕ)) (rest after line : List ℕ) (all : List (List ℕ)) → lines_of rest ≡ line ∷ lines_of after → new ≡ made ++ statement_in line ∷ []
    → made ++ statements_in rest ≡ all → new ++ statements_in after ≡ all
statements_more made new rest after line all lines added so_far =
    ap (λ (x : List (List ℕ)). x ++ statements_in after) added ∙ append_assoc made (statement_in line ∷ []) (statements_in after) ∙ ap (λ (l : List (List ℕ)). made ++ map statement_in l) (sym lines) ∙ so_far

pub statements_past : (made : List (List ℕ)) (rest : List ℕ) (all : List (List ℕ)) → length rest ≡ 0 → made ++ statements_in rest ≡ all → made ≡ all
statements_past made rest all none so_far = sym (append-nil made) ∙ ap (λ (l : List (List ℕ)). made ++ map statement_in l) (sym (no_lines rest none)) ∙ so_far
