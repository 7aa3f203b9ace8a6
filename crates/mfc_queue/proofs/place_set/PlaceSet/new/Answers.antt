use Rattle.cell_base.proofs.BitLaws.{bit-none}
use Rattle.mfc_queue.proofs.place_set.PlaceSet.new.Goals as goal

pub returns : goal.returns
returns c = bit-none
