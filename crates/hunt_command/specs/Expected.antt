-- What an expectation file says.
use Rattle.std.specs.Prelude.{ℕ, List, [], ◌∷◌, ◌++◌, nat_lt, length, if◌then◌else◌}
use Rattle.std.specs.List.{flat_map}
use Rattle.cell_base.specs.Words.{lines_of, words_of}
use Rattle.hunt_command.specs.Lines.{without_return}

-- words after another one, each after a space
unfoldable pub spaced : List (List ℕ) → List ℕ
spaced [] = []
spaced (word ∷ words) = (32 ∷ word) ++ spaced words

-- words with a space between two of them
unfoldable pub joined : List (List ℕ) → List ℕ
joined [] = []
joined (word ∷ words) = word ++ spaced words

-- what a line says: its words up to a comment
abbrev pub said_by : List ℕ → List ℕ
said_by line = joined (words_of (without_return line))

-- a line that has words, and none else
abbrev pub some_line : List ℕ → List (List ℕ)
some_line line = if nat_lt 0 (length line) then line ∷ [] else []

-- the lines that have words
abbrev pub expected_of : List (List ℕ) → List (List ℕ)
expected_of lines = flat_map (λ line. some_line (said_by line)) lines

-- the lines that are expected
abbrev pub expected_in : List ℕ → List (List ℕ)
expected_in text = expected_of (lines_of text)
