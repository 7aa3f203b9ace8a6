-- Tokens in order.
use Rattle.std.proofs.Common.{ℕ, ◌+◌, ◌<◌, ◌≤◌, List, [], ◌∷◌, ◌++◌, length, Option, None, Some, arith}
use Rattle.std.specs.List.{All}
use Rattle.std.proofs.lemmas.List.Elements.{All-cons, All-nil}
use Rattle.spu_lex.specs.declared.TokenKind.{TokenKind}
use Rattle.spu_lex.specs.declared.Token.{Token}
use Rattle.spu_lex.specs.Order.{InOrder, LiesIn}
use Rattle.spu_lex.specs.Tokens.{token_of}

pub first_le : (first last : ℕ) (ts : List Token) → InOrder first last ts → first ≤ last
first_le first last [] order = order
first_le first last (t ∷ ts) order = omega (arith, order.0, order.1, first_le t.end last ts order.2)

-- with one more token, or none
pub one_more : (first at line len : ℕ) (ts : List Token) (token : Option TokenKind) → 0 < len → InOrder first at ts → InOrder first (at + len) (ts ++ token_of at line len token)
one_more first at line len [] None some order = omega (arith, order)
one_more first at line len [] (Some kind) some order = (order, omega arith, omega arith)
one_more first at line len (t ∷ ts) token some order = (order.0, order.1, one_more t.end at line len ts token some order.2)

-- tokens in order lie in the text
pub lie_in : (first last : ℕ) (ts : List Token) → InOrder first last ts → All (LiesIn last) ts
lie_in first last [] order = All-nil (LiesIn last)
lie_in first last (t ∷ ts) order = All-cons (LiesIn last) t ts (order.1, first_le t.end last ts order.2) (lie_in t.end last ts order.2)

-- each has a byte
pub count_le : (first last : ℕ) (ts : List Token) → InOrder first last ts → first + length ts ≤ last
count_le first last [] order = omega (arith, order)
count_le first last (t ∷ ts) order = omega (arith, order.0, order.1, count_le t.end last ts order.2)
