-- Expected lines that a text doesn't have.
use Rattle.std.specs.Prelude.{ℕ, Bool, not, List, [], ◌∷◌, ◌++◌, filter, if◌then◌else◌}
use Rattle.std.specs.List.{list_any}
use Rattle.std.specs.Str.{bytes_eq}
use Rattle.cell_base.specs.Words.{lines_of}

abbrev pub has_line : List ℕ → List ℕ → Bool
has_line text line = list_any (λ l. bytes_eq line l) (lines_of text)

-- in their order
abbrev pub missed_in : List ℕ → List (List ℕ) → List (List ℕ)
missed_in text expected = filter (λ line. not (has_line text line)) expected

-- with a line more, if the text doesn't have it
abbrev pub with_line : List ℕ → List ℕ → List (List ℕ) → List (List ℕ)
with_line text line lines = if has_line text line then lines else lines ++ line ∷ []
