use Rattle.std.proofs.Common.{ap, ◌∙◌}
use Rattle.cell_base.specs.Bytes.{number}
use Rattle.cell_base.proofs.VectorLemmas.{number_of_sixteen}
use Rattle.cell_base.proofs.quad.Quad.bits.Goals as goal

pub returns : goal.returns
returns c = c.from_be_bytes.ensures ∙ number_of_sixteen c.self.inside.packed c.self.invariant.long ∙ ap number c.self.view_is
