use Rattle.cell_base.proofs.BitLaws.{bit-clear}
use Rattle.mfc_queue.proofs.place_set.PlaceSet.remove.Goals as goal

pub returns : goal.returns
returns c = λ k low. bit-clear _ c.args.place k c.requires low
