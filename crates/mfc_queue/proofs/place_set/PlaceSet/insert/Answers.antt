use Rattle.std.proofs.Common.{w16}
use Rattle.cell_base.proofs.BitLaws.{bit-set}
use Rattle.mfc_queue.proofs.place_set.PlaceSet.insert.Goals as goal

pub returns : goal.returns
returns c = λ k. bit-set w16 _ c.args.place k c.requires
