-- Where the tokens of a text stand in it.
use Rattle.std.specs.Prelude.{ℕ, ◌<◌, ◌≤◌, List, [], ◌∷◌}
use Rattle.spu_lex.specs.declared.Token.{Token}

-- each token begins at or behind the end of the one before it, has a byte, and ends at `last` or before it
abbrev pub InOrder : ℕ → ℕ → List Token → Type 0
InOrder first last [] = first ≤ last
InOrder first last (t ∷ ts) = (first ≤ t.start) × (t.start < t.end) × InOrder t.end last ts

-- a token that lies in a text of so many bytes
abbrev pub LiesIn : ℕ → Token → Type 0
LiesIn len t = (t.start < t.end) × (t.end ≤ len)
