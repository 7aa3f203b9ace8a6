-- The statements of the lines of a source, as findings show them.
use Rattle.std.specs.Prelude.{ℕ, ◌==◌, ◌||◌, Bool, List, [], ◌∷◌, map, if◌then◌else◌}
use Rattle.std.specs.List.{before_first}
use Rattle.cell_base.specs.Words.{is_hash, lines_of}

-- a space, a tab or a carriage return
abbrev pub is_margin : ℕ → Bool
is_margin b = b == 32 || b == 9 || b == 13

-- without those in front
unfoldable pub without_front : List ℕ → List ℕ
without_front [] = []
without_front (b ∷ bs) = if is_margin b then without_front bs else b ∷ bs

abbrev pub with_front : ℕ → List ℕ → List ℕ
with_front b [] = if is_margin b then [] else b ∷ []
with_front b (c ∷ cs) = b ∷ c ∷ cs

-- without those at the end
unfoldable pub without_back : List ℕ → List ℕ
without_back [] = []
without_back (b ∷ bs) = with_front b (without_back bs)

-- a line up to its comment, without blanks at both ends
abbrev pub statement_in : List ℕ → List ℕ
statement_in line = without_back (without_front (before_first is_hash line))

-- one for each line of a text
abbrev pub statements_in : List ℕ → List (List ℕ)
statements_in text = map statement_in (lines_of text)
