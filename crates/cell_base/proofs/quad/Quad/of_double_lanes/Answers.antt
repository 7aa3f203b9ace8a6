use Rattle.std.proofs.Common.{refl}
use Rattle.std.specs.Int.{w64}
use Rattle.cell_base.specs.Lanes.{of_lanes}
use Rattle.cell_base.proofs.VectorLemmas.{lanes_written, below}
use Rattle.cell_base.proofs.quad.Quad.of_double_lanes.Goals as goal

pub returns : goal.returns
unfolding of_lanes
returns c = lanes_written 8 2 c.args.doubles c.fits-doubles.0 (below w64 c.args.doubles c.fits-doubles.1) refl tt
