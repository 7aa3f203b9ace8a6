-- Reading a line's tokens from the left. What is read is given with the tokens after it.
use Rattle.std.specs.Prelude.{ℕ, Bool, true, false, ◌&&◌, List, [], ◌∷◌, length, Option, None, Some, if◌then◌else◌, slice_range}
use Rattle.std.specs.List.{All}
use Rattle.std.specs.Str.{bytes_eq}
use Rattle.std.specs.Borrow.{Bor}
use Rattle.spu_lex.specs.declared.Token.{Token}
use Rattle.spu_lex.specs.declared.TokenKind.{TokenKind}
use Rattle.spu_lex.specs.declared.TokenKind.TheVariants.{Name, Register, Number, Text, Mark, LineEnd}
use Rattle.spu_lex.specs.Numbers.{number_of}
use Rattle.spu_lex.specs.Order.{LiesIn}

infixl 10 ◌>>=◌
abbrev pub ◌>>=◌ : {A B : Type 0} → Option A → (A → Option B) → Option B
(Some x) >>= f = f x
None >>= f = None

-- tokens that lie in a text
abbrev pub Within : List ℕ → List Token → Type 0
Within text ts = All (LiesIn (length text)) ts

-- the token's bytes
abbrev pub word : List ℕ → Token → List ℕ
word text t = slice_range text t.start t.end

abbrev pub is_name : TokenKind → Bool
is_name Name = true
is_name _ = false

abbrev pub is_register : TokenKind → Bool
is_register Register = true
is_register _ = false

abbrev pub is_number : TokenKind → Bool
is_number Number = true
is_number _ = false

abbrev pub is_text : TokenKind → Bool
is_text Text = true
is_text _ = false

abbrev pub is_mark : TokenKind → Bool
is_mark Mark = true
is_mark _ = false

abbrev pub is_line_end : TokenKind → Bool
is_line_end LineEnd = true
is_line_end _ = false

-- whether a token is the mark of a character
abbrev pub is_the_mark : List ℕ → ℕ → Token → Bool
is_the_mark text b t = is_mark t.kind && bytes_eq (word text t) (b ∷ [])

-- the tokens after a mark
abbrev pub mark_at : List ℕ → ℕ → List Token → Option (List Token)
mark_at text b [] = None
mark_at text b (t ∷ ts) = if is_the_mark text b t then Some ts else None

abbrev pub begins_with_mark : List ℕ → ℕ → List Token → Bool
begins_with_mark text b [] = false
begins_with_mark text b (t ∷ ts) = is_the_mark text b t

abbrev pub name_at : List Token → Option (Token × List Token)
name_at [] = None
name_at (t ∷ ts) = if is_name t.kind then Some (t, ts) else None

abbrev pub number_at : List ℕ → List Token → Option (ℕ × List Token)
number_at text [] = None
number_at text (t ∷ ts) = if is_number t.kind then (number_of (word text t) >>= λ n. Some (n, ts)) else None

-- nothing may follow
abbrev pub ended : {A : Type 0} → A → List Token → Option A
ended x [] = Some x
ended x (t ∷ ts) = None

-- what a reader of the code found, without where the tokens lie in memory
abbrev pub seen : {A : Type 0} → Option (A × Bor (List Token)) → Option (A × List Token)
seen None = None
seen (Some x) = Some (x.0, x.1.now)

abbrev pub seen_rest : Option (Bor (List Token)) → Option (List Token)
seen_rest None = None
seen_rest (Some x) = Some x.now
