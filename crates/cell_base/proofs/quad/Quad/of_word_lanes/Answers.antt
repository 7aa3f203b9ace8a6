use Rattle.std.proofs.Common.{refl}
use Rattle.std.specs.Int.{w32}
use Rattle.cell_base.specs.Lanes.{of_lanes}
use Rattle.cell_base.proofs.VectorLemmas.{lanes_written, below}
use Rattle.cell_base.proofs.quad.Quad.of_word_lanes.Goals as goal

pub returns : goal.returns
unfolding of_lanes
returns c = lanes_written 4 4 c.args.words c.fits-words.0 (below w32 c.args.words c.fits-words.1) refl tt
