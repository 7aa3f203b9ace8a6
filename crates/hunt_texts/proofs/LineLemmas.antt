-- The lines of texts from their fronts on.
use Rattle.std.proofs.Common.{◌≡◌, ℕ, suc, Bool, true, false, not, eqb, List, [], ◌∷◌, length, refl, sym, ap, ◌∙◌, arith, true≢false}
use Rattle.std.specs.Str.{bytes_eq}
use Rattle.cell_base.specs.Words.{lines_of, whole_parts}
use Rattle.hunt_texts.specs.Results.{apart}

pub no_lines : lines_of [] ≡ []
unfolding lines_of whole_parts
no_lines = refl

pub is_nil : {X : Type 0} (xs : List X) → eqb (length xs) 0 ≡ true → xs ≡ []
is_nil [] e = refl
is_nil (x ∷ xs) e = absurd (let none : eqb (suc (length xs)) 0 ≡ false = grind arith in true≢false (sym e ∙ none))

-- one of them ends here
pub first_ends : (text : List ℕ) (ys : List (List ℕ)) → eqb (length text) 0 ≡ true → apart (lines_of text) ys ≡ (lines_of text, ys)
unfolding apart
first_ends text ys e =
    let none : lines_of text ≡ [] = ap lines_of (is_nil text e) ∙ no_lines in
    rw none refl

second_nil : (xs : List (List ℕ)) → apart xs [] ≡ (xs, [])
unfolding apart
second_nil [] = refl
second_nil (x ∷ xs) = refl

pub second_ends : (xs : List (List ℕ)) (text : List ℕ) → eqb (length text) 0 ≡ true → apart xs (lines_of text) ≡ (xs, lines_of text)
second_ends xs text e =
    let none : lines_of text ≡ [] = ap lines_of (is_nil text e) ∙ no_lines in
    rw none (second_nil xs)

-- or they differ here, or further on
pub differ_here : (xs ys xs' ys' : List (List ℕ)) (x y : List ℕ) → xs ≡ x ∷ xs' → ys ≡ y ∷ ys' → bytes_eq x y ≡ false → apart xs ys ≡ (xs, ys)
unfolding apart
differ_here xs ys xs' ys' x y e f ne = rw (e, f, ne) refl

pub differ_later : (xs ys xs' ys' : List (List ℕ)) (x y : List ℕ) → xs ≡ x ∷ xs' → ys ≡ y ∷ ys' → bytes_eq x y ≡ true → apart xs ys ≡ apart xs' ys'
unfolding apart
differ_later xs ys xs' ys' x y e f same = rw (e, f, same) refl

pub not_true : (b : Bool) → not b ≡ true → b ≡ false
not_true true e = absurd (true≢false (sym e))
not_true false e = refl
