use Rattle.spu_decode.proofs.ReadingLemmas.{found-row}
use Rattle.spu_decode.proofs.row_spelled.Goals as goal

pub returns : goal.returns
returns c = found-row c.args.w c.in_ok-reading.reading c.in_ok-reading.ensures
