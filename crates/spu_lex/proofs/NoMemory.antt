-- Want of memory is nothing that a text is cut into.
use Rattle.std.proofs.Common.{ℕ, zero, suc, ◌+◌, List, [], ◌∷◌, ◌++◌, length, drop, Result, Ok, Err}
use Rattle.std.specs.Prelude.{◌≢◌}
use Rattle.spu_lex.specs.declared.Token.{Token}
use Rattle.spu_lex.specs.declared.LexError.{LexError}
use Rattle.spu_lex.specs.declared.LexError.TheVariants.{BadChar, BadNumber, Memory}
use Rattle.spu_lex.specs.declared.front.Piece.{Piece}
use Rattle.spu_lex.specs.declared.front.Fault.{Fault}
use Rattle.spu_lex.specs.declared.front.Fault.TheVariants.{Char, Word}
use Rattle.spu_lex.specs.Pieces.{front}
use Rattle.spu_lex.specs.Tokens.{◌>>=◌, located, line_after, token_of, tokens_from, tokens_of}

-- the tokens, or a fault of the text
abbrev IsTold : Result (List Token) LexError → Type 0
IsTold (Ok tokens) = Unit {0}
IsTold (Err Memory) = ⊥
IsTold (Err fault) = Unit {0}

piece-told : (at : ℕ) (r : Result Piece Fault) (go_on : Piece → Result (List Token) LexError) → ((p : Piece) → IsTold (go_on p)) → IsTold (located at r >>= go_on)
piece-told at (Ok p) go_on h = h p
piece-told at (Err (Char n)) go_on h = tt
piece-told at (Err Word) go_on h = tt

rest-told : (r : Result (List Token) LexError) (first : List Token) → IsTold r → IsTold (r >>= λ others. Ok (first ++ others))
rest-told (Ok others) first h = tt
rest-told (Err (BadChar at)) first h = tt
rest-told (Err (BadNumber at)) first h = tt
rest-told (Err Memory) first h = h

tokens-told : (pieces at line : ℕ) (bytes : List ℕ) → IsTold (tokens_from pieces at line bytes)
unfolding tokens_from
tokens-told zero at line [] = tt
tokens-told (suc pieces) at line [] = tt
tokens-told zero at line (b ∷ bs) = tt
tokens-told (suc pieces) at line (b ∷ bs) =
    piece-told at (front (b ∷ bs)) (λ p. tokens_from pieces (at + p.len) (line_after line p.token) (drop p.len (b ∷ bs)) >>= λ others. Ok (token_of at line p.len p.token ++ others))
    (λ p. rest-told (tokens_from pieces (at + p.len) (line_after line p.token) (drop p.len (b ∷ bs))) (token_of at line p.len p.token) (tokens-told pieces (at + p.len) (line_after line p.token) (drop p.len (b ∷ bs))))

told-is : (r : Result (List Token) LexError) → IsTold r → r ≢ Err Memory
told-is (Ok tokens) h e = cc
told-is (Err (BadChar at)) h e = cc
told-is (Err (BadNumber at)) h e = cc
told-is (Err Memory) h e = h

pub tokens_no_memory : (text : List ℕ) → tokens_of text ≢ Err Memory
tokens_no_memory text = told-is (tokens_of text) (tokens-told (length text) 0 1 text)
