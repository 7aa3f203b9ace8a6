use Rattle.std.proofs.Common.{rules, ◌≡◌, ℕ, ◌<◌, ◌^◌, length, get_or, ◌∙◌, arith}
use Rattle.std.proofs.Common.{ap, ap₂}
use Rattle.std.specs.Simd.Lanes.{zip2}
use Rattle.std.specs.Int.{w16}
use Rattle.cell_base.specs.Lanes.{of_lanes}
use Rattle.cell_base.proofs.LaneLemmas.{zipped}
use Rattle.cell_base.proofs.quad.Quad.zip_halves.Goals as goal

pub returns : goal.returns
returns g c = λ f agree.
    let xs = c.half_lanes.result in
    let ys = c.half_lanes-2.result in
    let long-x : length xs ≡ 8 = search rules in
    let fits-x : (k : ℕ) → get_or xs k 0 < 2 ^ 16 = search rules in
    let long-y : length ys ≡ 8 = search rules in
    let fits-y : (k : ℕ) → get_or ys k 0 < 2 ^ 16 = search rules in
    let made = c.loop-k.invariant in
    c.of_half_lanes.ensures ∙ ap (of_lanes w16)
    (zipped f xs ys c.loop-k.lanes 8 long-x long-y made.0 (λ k h. agree _ _ _ (fits-x k) (fits-y k) (made.1 k (omega arith)))
    ∙ ap₂ (zip2 f) c.half_lanes.ensures c.half_lanes-2.ensures)
