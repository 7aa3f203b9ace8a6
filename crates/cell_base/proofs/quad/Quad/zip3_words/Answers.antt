use Rattle.std.proofs.Common.{rules, ◌≡◌, ℕ, ◌<◌, ◌^◌, length, get_or, ◌∙◌, arith}
use Rattle.std.proofs.Common.{ap}
use Rattle.cell_base.proofs.LaneLemmas.{ap₃}
use Rattle.cell_base.specs.Lanes.{zip3}
use Rattle.std.specs.Int.{w32}
use Rattle.cell_base.specs.Lanes.{of_lanes}
use Rattle.cell_base.proofs.LaneLemmas.{zipped3}
use Rattle.cell_base.proofs.quad.Quad.zip3_words.Goals as goal

pub returns : goal.returns
returns g c = λ f agree.
    let xs = c.word_lanes.result in
    let ys = c.word_lanes-2.result in
    let zs = c.word_lanes-3.result in
    let long-x : length xs ≡ 4 = search rules in
    let fits-x : (k : ℕ) → get_or xs k 0 < 2 ^ 32 = search rules in
    let long-y : length ys ≡ 4 = search rules in
    let fits-y : (k : ℕ) → get_or ys k 0 < 2 ^ 32 = search rules in
    let long-z : length zs ≡ 4 = search rules in
    let fits-z : (k : ℕ) → get_or zs k 0 < 2 ^ 32 = search rules in
    let made = c.loop-k.invariant in
    c.of_word_lanes.ensures ∙ ap (of_lanes w32)
    (zipped3 f xs ys zs c.loop-k.lanes 4 long-x long-y long-z made.0 (λ k h. agree _ _ _ _ (fits-x k) (fits-y k) (fits-z k) (made.1 k (omega arith)))
    ∙ ap₃ (zip3 f) c.word_lanes.ensures c.word_lanes-2.ensures c.word_lanes-3.ensures)
