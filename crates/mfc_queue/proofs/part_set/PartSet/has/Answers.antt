use Rattle.mfc_queue.specs.Sets.{has_part}
use Rattle.cell_base.proofs.BitLaws.{bit-test}
use Rattle.mfc_queue.proofs.part_set.PartSet.has.Goals as goal

pub returns : goal.returns
unfolding has_part
returns c = bit-test _ _
