use Rattle.std.proofs.Common.{refl, ap, ◌∙◌}
use Rattle.std.specs.Int.{w16}
use Rattle.cell_base.specs.Lanes.{lanes}
use Rattle.cell_base.proofs.VectorLemmas.{lanes_read}
use Rattle.cell_base.proofs.quad.Quad.half_lanes.Goals as goal

pub returns : goal.returns
unfolding lanes
returns c = lanes_read 2 8 c.self.inside.packed c.self.invariant.long c.self.invariant.small refl tt ∙ ap (lanes w16) c.self.view_is
