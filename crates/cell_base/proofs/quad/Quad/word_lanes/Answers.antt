use Rattle.std.proofs.Common.{refl, ap, ◌∙◌}
use Rattle.std.specs.Int.{w32}
use Rattle.cell_base.specs.Lanes.{lanes}
use Rattle.cell_base.proofs.VectorLemmas.{lanes_read}
use Rattle.cell_base.proofs.quad.Quad.word_lanes.Goals as goal

pub returns : goal.returns
unfolding lanes
returns c = lanes_read 4 4 c.self.inside.packed c.self.invariant.long c.self.invariant.small refl tt ∙ ap (lanes w32) c.self.view_is
