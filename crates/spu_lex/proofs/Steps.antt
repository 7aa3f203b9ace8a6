-- The tokens of a text, found piece by piece.
use Rattle.std.proofs.Common.{◌≡◌, ℕ, zero, suc, ◌+◌, ◌≤◌, ◌<◌, List, [], ◌∷◌, ◌++◌, length, drop, Result, Ok, Err, refl, sym, ap, ◌∙◌, append_assoc, arith}
use Rattle.std.proofs.lemmas.List.{append-nil, length-drop}
use Rattle.spu_lex.specs.declared.Token.{Token}
use Rattle.spu_lex.specs.declared.LexError.{LexError}
use Rattle.spu_lex.specs.declared.LexError.TheVariants.{BadChar, BadNumber, Memory}
use Rattle.spu_lex.specs.declared.front.Piece.{Piece}
use Rattle.spu_lex.specs.Pieces.{front as front_piece}
use Rattle.spu_lex.specs.Tokens.{◌>>=◌, tokens_from, located, token_of, line_after, Gives}

-- tokens before those that are still read
abbrev pub behind : List Token → Result (List Token) LexError → Result (List Token) LexError
behind front read = read >>= λ ts. Ok (front ++ ts)

regroup : (front next : List Token) (read : Result (List Token) LexError) → behind front (read >>= λ ts. Ok (next ++ ts)) ≡ behind (front ++ next) read
regroup front next (Ok ts) = ap Ok (simp append_assoc)
regroup front next (Err e) = refl

-- the tokens so far and those of the rest are all
pub SoFar : List Token → ℕ → ℕ → List ℕ → Result (List Token) LexError → Type 0
SoFar front at line rest total = (pieces : ℕ) × (length rest ≤ pieces) × (behind front (tokens_from pieces at line rest) ≡ total)

pub begins : (text : List ℕ) → SoFar [] 0 1 text (tokens_from (length text) 0 1 text)
unfolding SoFar
begins text = (length text, omega arith, same (tokens_from (length text) 0 1 text))
  where
    same : (r : Result (List Token) LexError) → behind [] r ≡ r
    same (Ok ts) = refl
    same (Err e) = refl

pub goes_on : (front : List Token) (at line : ℕ) (rest : List ℕ) (total : Result (List Token) LexError) (p : Piece) → 0 < length rest → 0 < p.len → p.len ≤ length rest
    → located at (front_piece rest) ≡ Ok p → SoFar front at line rest total
    → SoFar (front ++ token_of at line p.len p.token) (at + p.len) (line_after line p.token) (drop p.len rest) total
unfolding SoFar tokens_from
goes_on front at line [] total p some more less is so_far = absurd (omega arith)
goes_on front at line (b ∷ bs) total p some more less is (zero, room, so_far) = absurd (omega arith)
goes_on front at line (b ∷ bs) total p some more less is (suc n, room, so_far) =
    let one : behind front (tokens_from (suc n) at line (b ∷ bs)) ≡ behind (front ++ token_of at line p.len p.token) (tokens_from n (at + p.len) (line_after line p.token) (drop p.len (b ∷ bs))) =
    rw is (regroup front (token_of at line p.len p.token) (tokens_from n (at + p.len) (line_after line p.token) (drop p.len (b ∷ bs)))) in
    (n, omega (arith, length-drop p.len (b ∷ bs)), sym one ∙ so_far)

-- a fault at the front of the rest is the text's
pub fault_ends : (front : List Token) (at line : ℕ) (rest : List ℕ) (total : Result (List Token) LexError) (e : LexError) → 0 < length rest
    → located at (front_piece rest) ≡ Err e → SoFar front at line rest total → total ≡ Err e
unfolding SoFar tokens_from
fault_ends front at line [] total e some is so_far = absurd (omega arith)
fault_ends front at line (b ∷ bs) total e some is (zero, room, so_far) = absurd (omega arith)
fault_ends front at line (b ∷ bs) total e some is (suc n, room, so_far) =
    let one : behind front (tokens_from (suc n) at line (b ∷ bs)) ≡ Err e = rw is refl in
    sym so_far ∙ one

pub is_done : (front : List Token) (at line : ℕ) (rest : List ℕ) (total : Result (List Token) LexError) → length rest ≡ 0 → SoFar front at line rest total → total ≡ Ok front
unfolding SoFar tokens_from
is_done front at line [] total none (n, room, so_far) = sym so_far ∙ ap Ok (append-nil front)
is_done front at line (b ∷ bs) total none so_far = absurd (omega arith)

pub gives_err : (e : LexError) (given : Result (List Token) LexError) → given ≡ Err e → Gives (Err e) given
gives_err (BadChar n) given is = is
gives_err (BadNumber n) given is = is
gives_err Memory given is = tt
