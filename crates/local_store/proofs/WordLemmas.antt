-- The number that four bytes spell.
use Rattle.std.proofs.Common.{◌≡◌, ℕ, ◌+◌, ◌*◌, List, [], ◌∷◌, length, get_or, arith}
use Rattle.cell_base.specs.Bytes.{number}

pub number_of_four : (xs : List ℕ) → length xs ≡ 4 →
    get_or xs 0 0 * 16777216 + get_or xs 1 0 * 65536 + get_or xs 2 0 * 256 + get_or xs 3 0 ≡ number xs
unfolding number
number_of_four [] e = cc
number_of_four (a ∷ []) e = absurd (omega arith)
number_of_four (a ∷ b ∷ []) e = absurd (omega arith)
number_of_four (a ∷ b ∷ c ∷ []) e = absurd (omega arith)
number_of_four (a ∷ b ∷ c ∷ d ∷ []) e = omega arith
number_of_four (a ∷ b ∷ c ∷ d ∷ x ∷ xs) e = absurd (omega arith)
