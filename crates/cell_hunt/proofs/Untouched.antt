-- Numbers that nobody touched add nothing to the digest of what was touched.
use Rattle.std.proofs.Common.{◌≡◌, ℕ, zero, suc, ◌+◌, ◌-◌, ◌<◌, ◌≤◌, ap, refl, ◌∙◌, List, [], ◌∷◌, ◌++◌, drop, length, arith}
use Rattle.std.specs.Prelude.{slice_index}
use Rattle.std.proofs.lemmas.List.{drop-drop, drop_all, drop_more, get_or-drop}
use Rattle.digest_pages.specs.Nexts.{IsNext}
use Rattle.cell_hunt.specs.Kinds.{touched}
use Rattle.cell_hunt.specs.Touched.{touched_from}

-- zeros in front
skipped : (n m : ℕ) (xs : List ℕ) → ((k : ℕ) → k < m → slice_index xs k ≡ 0) → touched_from n xs ≡ touched_from (n + m) (drop m xs)
skipped n zero xs none = let same : n ≡ n + 0 = omega arith in ap (λ a. touched_from a xs) same
skipped n (suc m) [] none = refl
skipped n (suc m) (x ∷ xs) none =
    let first : x ≡ 0 = none 0 (omega arith) in
    let place : n + 1 + m ≡ n + suc m = omega arith in
    ap (λ who. touched n who ++ touched_from (n + 1) xs) first
    ∙ skipped (n + 1) m xs (λ k low. none (suc k) (omega (arith, low)))
    ∙ ap (λ a. touched_from a (drop m xs)) place

-- from the next number on that somebody touched
pub from_next : (xs : List ℕ) (n what : ℕ) → what < length xs → IsNext xs n what → touched_from n (drop n xs) ≡ touched what (slice_index xs what) ++ touched_from (what + 1) (drop (what + 1) xs)
from_next xs n what inside next =
    let first = next.from in
    let place : n + (what - n) ≡ what = omega (arith, first) in
    skipped n (what - n) (drop n xs) (λ k low. get_or-drop n xs k 0 ∙ next.least (n + k) (omega arith) (omega (arith, low, first)))
    ∙ ap (touched_from (n + (what - n))) (drop-drop (what - n) n xs)
    ∙ ap (λ a. touched_from a (drop a xs)) place
    ∙ ap (touched_from what) (drop_more xs what 0 inside)

-- where nobody touched one from here on
pub none_from : (xs : List ℕ) (n : ℕ) → ((k : ℕ) → n ≤ k → slice_index xs k ≡ 0) → touched_from n (drop n xs) ≡ []
none_from xs n none =
    skipped n (length xs) (drop n xs) (λ k low. get_or-drop n xs k 0 ∙ none (n + k) (omega arith))
    ∙ ap (touched_from (n + length xs)) (drop-drop (length xs) n xs ∙ drop_all (n + length xs) xs (omega arith))
