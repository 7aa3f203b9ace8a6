use Rattle.mfc_queue.proofs.SetLemmas.{part-none}
use Rattle.mfc_queue.proofs.part_set.PartSet.new.Goals as goal

pub returns : goal.returns
returns c = part-none
