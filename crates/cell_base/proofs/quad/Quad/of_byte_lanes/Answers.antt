use Rattle.std.proofs.Common.{sym}
use Rattle.std.specs.Int.{w8}
use Rattle.cell_base.specs.Lanes.{of_lanes}
use Rattle.cell_base.proofs.VectorLemmas.{joined_bytes, below}
use Rattle.cell_base.proofs.quad.Quad.of_byte_lanes.Goals as goal

pub invariant_of-result : goal.invariant_of-result
invariant_of-result c = record { long = c.fits-bytes.0; small = below w8 c.args.bytes c.fits-bytes.1 }

pub returns : goal.returns
unfolding of_lanes
returns c = sym (joined_bytes c.args.bytes (below w8 c.args.bytes c.fits-bytes.1))
