-- Rows, one after the other.
use Rattle.std.proofs.Common.{◌≡◌, ℕ, zero, suc, ◌+◌, List, [], ◌∷◌, ◌++◌, sym, ap, ◌∙◌, append_assoc, arith}
use Rattle.std.proofs.lemmas.List.{append-nil}
use Rattle.std.proofs.lemmas.Grind.{flat_map-append}
use Rattle.std.specs.List.{flat_map, range_with_len}

range-last : (a n : ℕ) → range_with_len a (suc n) ≡ range_with_len a n ++ (a + n) ∷ []
range-last a zero = let e : a ≡ a + 0 = omega arith in ap (λ x. x ∷ []) e
range-last a (suc n) =
    let e : a + 1 + n ≡ a + suc n = omega arith in
    ap (λ xs. a ∷ xs) (range-last (a + 1) n ∙ ap (λ x. range_with_len (a + 1) n ++ x ∷ []) e)

pub rows-more : (f : ℕ → List ℕ) (out made new : List ℕ) (k : ℕ) → made ≡ out ++ flat_map f (range_with_len 0 k) → new ≡ made ++ f k
    → new ≡ out ++ flat_map f (range_with_len 0 (k + 1))
rows-more f out made new k before wrote =
    let one : k + 1 ≡ suc k = omega arith in
    let at : 0 + k ≡ k = omega arith in
    let last : flat_map f (range_with_len 0 (k + 1)) ≡ flat_map f (range_with_len 0 k) ++ f k =
    ap (λ n. flat_map f (range_with_len 0 n)) one ∙ ap (flat_map f) (range-last 0 k) ∙ flat_map-append f (range_with_len 0 k) ((0 + k) ∷ [])
    ∙ ap (λ x. flat_map f (range_with_len 0 k) ++ x) (append-nil (f (0 + k)) ∙ ap f at) in
    wrote ∙ ap (λ t. t ++ f k) before ∙ append_assoc out (flat_map f (range_with_len 0 k)) (f k) ∙ ap (λ t. out ++ t) (sym last)
