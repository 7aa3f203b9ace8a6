-- Counts of runs as text.
use Rattle.std.specs.Prelude.{ℕ, ◌+◌, ◌==◌, List, ◌++◌, codes, if◌then◌else◌}
use Rattle.std.specs.Fmt.{decimal}

-- a number and the text after it
unfoldable pub word_text : ℕ → List ℕ → List ℕ
word_text n word = decimal n ++ word

-- one thing, or a number of them
abbrev pub units_text : ℕ → List ℕ → List ℕ → List ℕ
units_text n one many = if n == 1 then one else word_text n many

abbrev pub runs_text : ℕ → List ℕ
runs_text n = units_text n (codes "1 run") (codes " runs")

unfoldable pub first_text : ℕ → List ℕ
first_text run = codes " (first: run " ++ word_text run (codes ")")

-- the number of runs, and the first of them, if the hunt's first run has number `from`
unfoldable pub counted_text : ℕ → ℕ → ℕ → List ℕ
counted_text from runs first = runs_text runs ++ first_text (from + first)
