-- The lines of a text, and the words of a line.
use Rattle.std.specs.Prelude.{ℕ, ◌==◌, ◌||◌, nat_lt, Bool, List, [], ◌∷◌, length, filter, if◌then◌else◌}
use Rattle.std.specs.List.{slice_split, before_first}

abbrev pub is_feed : ℕ → Bool
is_feed b = b == 10

-- a space or a tab
abbrev pub is_blank : ℕ → Bool
is_blank b = b == 32 || b == 9

abbrev pub is_hash : ℕ → Bool
is_hash b = b == 35

-- an empty last part is no line
unfoldable pub whole_parts : List (List ℕ) → List (List ℕ)
whole_parts [] = []
whole_parts (part ∷ []) = if length part == 0 then [] else part ∷ []
whole_parts (part ∷ next ∷ more) = part ∷ whole_parts (next ∷ more)

-- the bytes between the line feeds; the last line may lack its own
unfoldable pub lines_of : List ℕ → List (List ℕ)
lines_of text = whole_parts (slice_split is_feed text)

abbrev pub is_word : List ℕ → Bool
is_word part = nat_lt 0 (length part)

-- what stands between the blanks
unfoldable pub words_in : List ℕ → List (List ℕ)
words_in bytes = filter is_word (slice_split is_blank bytes)

-- the words of a line, up to a comment
abbrev pub words_of : List ℕ → List (List ℕ)
words_of line = words_in (before_first is_hash line)
