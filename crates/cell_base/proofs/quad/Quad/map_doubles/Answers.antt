use Rattle.std.proofs.Common.{rules, ◌≡◌, ℕ, ◌<◌, ◌^◌, length, get_or, ◌∙◌, arith}
use Rattle.std.proofs.Common.{map, ap}
use Rattle.std.specs.Int.{w64}
use Rattle.cell_base.specs.Lanes.{of_lanes}
use Rattle.cell_base.proofs.LaneLemmas.{mapped}
use Rattle.cell_base.proofs.quad.Quad.map_doubles.Goals as goal

pub returns : goal.returns
returns g c = λ f agree.
    let xs = c.double_lanes.result in
    let long-x : length xs ≡ 2 = search rules in
    let fits-x : (k : ℕ) → get_or xs k 0 < 2 ^ 64 = search rules in
    let made = c.loop-k.invariant in
    c.of_double_lanes.ensures ∙ ap (of_lanes w64)
    (mapped f xs c.loop-k.lanes 2 long-x made.0 (λ k h. agree _ _ (fits-x k) (made.1 k (omega arith)))
    ∙ ap (map f) c.double_lanes.ensures)
