-- The machine as its processors are added.
use Rattle.std.proofs.Common.{◌≡◌, ℕ, ◌+◌, List, [], ◌∷◌, ◌++◌, length, map, replicate, sym, ap, ◌∙◌, arith}
use Rattle.std.specs.List.{range_with_len}
use Rattle.std.proofs.lemmas.List.{replicate_more, length-replicate}
use Rattle.std.proofs.lemmas.List.FromFn.{map-range_with_len_more}
use Rattle.cell_machine.specs.Opening.{Opening, Placed}
use Rattle.cell_gen.specs.Generated.{placed_for}

abbrev pub made : List ℕ → List Placed → Opening
made entries placed = record { lines = 128; budget = 1000000; entries = entries; or_modes = 0; placed = placed; memory = []; actions = []; shows = [] }

-- with its first p processors
abbrev pub made_with : ℕ → ℕ → Opening
made_with n p = made (replicate p 0) (map (placed_for n) (range_with_len 0 p))

pub one_more : (S T : Opening) (n p : ℕ) → S ≡ made_with n p → T ≡ record S { entries = S.entries ++ 0 ∷ []; placed = S.placed ++ placed_for n (length S.entries) ∷ [] } → T ≡ made_with n (p + 1)
one_more S T n p so_far next =
    let placed : map (placed_for n) (range_with_len 0 (p + 1)) ≡ map (placed_for n) (range_with_len 0 p) ++ placed_for n p ∷ [] = map-range_with_len_more (placed_for n) 0 p p (omega arith) in
    next
    ∙ ap (λ (V : Opening). record V { entries = V.entries ++ 0 ∷ []; placed = V.placed ++ placed_for n (length V.entries) ∷ [] }) so_far
    ∙ ap (λ k. made (replicate p 0 ++ 0 ∷ []) (map (placed_for n) (range_with_len 0 p) ++ placed_for n k ∷ [])) (length-replicate p 0)
    ∙ ap (λ es. made es (map (placed_for n) (range_with_len 0 p) ++ placed_for n p ∷ [])) (replicate_more p 0)
    ∙ ap (made (replicate (p + 1) 0)) (sym placed)
