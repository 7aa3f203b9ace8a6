use Rattle.std.proofs.Common.{sym, ap, ◌∙◌}
use Rattle.std.specs.Int.{w8}
use Rattle.cell_base.specs.Lanes.{lanes, slices}
use Rattle.cell_base.proofs.VectorLemmas.{bytes_as_lanes}
use Rattle.cell_base.proofs.quad.Quad.byte_lanes.Goals as goal

pub returns : goal.returns
unfolding lanes
returns c =
    let bytes = c.self.inside.packed in
    sym (bytes_as_lanes bytes c.self.invariant.small) ∙ ap (λ k. slices 1 k bytes) c.self.invariant.long ∙ ap (lanes w8) c.self.view_is
