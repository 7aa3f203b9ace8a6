-- The tokens of a text.
use Rattle.std.specs.Prelude.{◌≡◌, ℕ, zero, suc, ◌+◌, List, [], ◌∷◌, ◌++◌, length, drop, Option, None, Some, Result, Ok, Err}
use Rattle.spu_lex.specs.declared.TokenKind.{TokenKind}
use Rattle.spu_lex.specs.declared.TokenKind.TheVariants.{LineEnd}
use Rattle.spu_lex.specs.declared.Token.{Token}
use Rattle.spu_lex.specs.declared.LexError.{LexError}
use Rattle.spu_lex.specs.declared.LexError.TheVariants.{BadChar, BadNumber, Memory}
use Rattle.spu_lex.specs.declared.front.Piece.{Piece}
use Rattle.spu_lex.specs.declared.front.Fault.{Fault}
use Rattle.spu_lex.specs.declared.front.Fault.TheVariants.{Char, Word}
use Rattle.spu_lex.specs.Pieces.{front}

infixl 10 ◌>>=◌
abbrev pub ◌>>=◌ : {A B : Type 0} → Result A LexError → (A → Result B LexError) → Result B LexError
(Ok x) >>= f = f x
(Err e) >>= f = Err e

-- the token of a piece at a place and a line, where it is one
abbrev pub token_of : ℕ → ℕ → ℕ → Option TokenKind → List Token
token_of at line len None = []
token_of at line len (Some kind) = record { kind = kind; start = at; end = at + len; line = line } ∷ []

-- the line of what comes after a piece
abbrev pub line_after : ℕ → Option TokenKind → ℕ
line_after line (Some LineEnd) = line + 1
line_after line _ = line

-- the piece at the front, or the fault by its place
abbrev pub located : ℕ → Result Piece Fault → Result Piece LexError
located at (Ok p) = Ok p
located at (Err (Char n)) = Err (BadChar (at + n))
located at (Err Word) = Err (BadNumber at)

-- The tokens of what stands from a place and a line on, up to the first fault. Each piece has a byte, so
-- as many pieces as bytes are enough.
unfoldable pub tokens_from : ℕ → ℕ → ℕ → List ℕ → Result (List Token) LexError
tokens_from pieces at line [] = Ok []
tokens_from zero at line (b ∷ bs) = Ok []
tokens_from (suc pieces) at line (b ∷ bs) = do
  p ← located at (front (b ∷ bs))
  others ← tokens_from pieces (at + p.len) (line_after line p.token) (drop p.len (b ∷ bs))
  Ok (token_of at line p.len p.token ++ others)

-- the tokens of a text, or its first fault
abbrev pub tokens_of : List ℕ → Result (List Token) LexError
tokens_of text = tokens_from (length text) 0 1 text

-- What was returned is what the text gives, unless memory ran out.
abbrev pub Gives : Result (List Token) LexError → Result (List Token) LexError → Type 0
Gives (Ok tokens) given = given ≡ Ok tokens
Gives (Err Memory) given = Unit {0}
Gives (Err e) given = given ≡ Err e
