use Rattle.std.proofs.Common.{◌∙◌}
use Rattle.cell_base.specs.Lanes.{of_lanes}
use Rattle.cell_base.proofs.BytesLemmas.{halves_spelled}
use Rattle.cell_base.proofs.quad.Quad.of_bits.Goals as goal

pub returns : goal.returns
unfolding of_lanes
returns c = c.of_double_lanes.ensures ∙ halves_spelled 8 c.args.bits
