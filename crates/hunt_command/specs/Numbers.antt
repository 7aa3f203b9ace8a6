-- Words that are numbers.
use Rattle.std.specs.Prelude.{ℕ, ◌==◌, List, [], ◌∷◌, if◌then◌else◌, Option, Some, None}
use Rattle.cell_base.specs.Numbers.{◌>>=◌, number_at, whole}

-- the number that a word is in decimal, 0 or without a leading zero, and none above limit
abbrev pub number_within : ℕ → List ℕ → Option ℕ
number_within limit word = number_at limit word >>= whole

-- a number of seconds may have an `s` after it
abbrev pub seconds_of : ℕ → List ℕ → Option ℕ
seconds_of n [] = Some n
seconds_of n (b ∷ []) = if b == 115 then Some n else None
seconds_of n (b ∷ c ∷ rest) = None

abbrev pub seconds_within : ℕ → List ℕ → Option ℕ
seconds_within limit word = number_at limit word >>= λ x. seconds_of x.0 x.1
