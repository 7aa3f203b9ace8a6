use Rattle.std.proofs.Common.{refl}
use Rattle.std.specs.Int.{w16}
use Rattle.cell_base.specs.Lanes.{of_lanes}
use Rattle.cell_base.proofs.VectorLemmas.{lanes_written, below}
use Rattle.cell_base.proofs.quad.Quad.of_half_lanes.Goals as goal

pub returns : goal.returns
unfolding of_lanes
returns c = lanes_written 2 8 c.args.halves c.fits-halves.0 (below w16 c.args.halves c.fits-halves.1) refl tt
