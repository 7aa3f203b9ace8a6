use Rattle.std.proofs.Common.{rules, ◌≡◌, ℕ, ◌<◌, ◌^◌, length, get_or, ◌∙◌, arith}
use Rattle.std.proofs.Common.{map, ap}
use Rattle.std.specs.Int.{w16}
use Rattle.cell_base.specs.Lanes.{of_lanes}
use Rattle.cell_base.proofs.LaneLemmas.{mapped}
use Rattle.cell_base.proofs.quad.Quad.map_halves.Goals as goal

pub returns : goal.returns
returns g c = λ f agree.
    let xs = c.half_lanes.result in
    let long-x : length xs ≡ 8 = search rules in
    let fits-x : (k : ℕ) → get_or xs k 0 < 2 ^ 16 = search rules in
    let made = c.loop-k.invariant in
    c.of_half_lanes.ensures ∙ ap (of_lanes w16)
    (mapped f xs c.loop-k.lanes 8 long-x made.0 (λ k h. agree _ _ (fits-x k) (made.1 k (omega arith)))
    ∙ ap (map f) c.half_lanes.ensures)
