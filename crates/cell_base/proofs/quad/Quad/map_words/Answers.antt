use Rattle.std.proofs.Common.{rules, ◌≡◌, ℕ, ◌<◌, ◌^◌, length, get_or, ◌∙◌, arith}
use Rattle.std.proofs.Common.{map, ap}
use Rattle.std.specs.Int.{w32}
use Rattle.cell_base.specs.Lanes.{of_lanes}
use Rattle.cell_base.proofs.LaneLemmas.{mapped}
use Rattle.cell_base.proofs.quad.Quad.map_words.Goals as goal

pub returns : goal.returns
returns g c = λ f agree.
    let xs = c.word_lanes.result in
    let long-x : length xs ≡ 4 = search rules in
    let fits-x : (k : ℕ) → get_or xs k 0 < 2 ^ 32 = search rules in
    let made = c.loop-k.invariant in
    c.of_word_lanes.ensures ∙ ap (of_lanes w32)
    (mapped f xs c.loop-k.lanes 4 long-x made.0 (λ k h. agree _ _ (fits-x k) (made.1 k (omega arith)))
    ∙ ap (map f) c.word_lanes.ensures)
