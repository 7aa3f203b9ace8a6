use Rattle.mfc_queue.proofs.SetLemmas.{part-set}
use Rattle.mfc_queue.proofs.part_set.PartSet.insert.Goals as goal

pub returns : goal.returns
returns c = λ k. part-set _ c.args.part k c.args.self.now.whole c.requires
