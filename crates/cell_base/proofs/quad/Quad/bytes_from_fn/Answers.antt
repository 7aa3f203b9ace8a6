use Rattle.std.proofs.Common.{ap, ◌∙◌, arith}
use Rattle.std.proofs.lemmas.List.FromFn.{fill_by_all}
use Rattle.std.specs.Int.{w8}
use Rattle.cell_base.specs.Lanes.{of_lanes, lanes_from}
use Rattle.cell_base.proofs.quad.Quad.bytes_from_fn.Goals as goal

pub returns : goal.returns
unfolding lanes_from
returns g c = λ f agree.
    let made = c.loop-k.invariant in
    c.of_byte_lanes.ensures
    ∙ ap (of_lanes w8) (fill_by_all f c.loop-k.lanes 16 0 made.0 (λ k h. agree k _ h (made.1 k (omega arith))))
