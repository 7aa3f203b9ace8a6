use Rattle.spu_decode.proofs.ReadingLemmas.{row_at, reading_at}
use Rattle.spu_decode.proofs.reading_at.Goals as goal

pub returns-clause-row : goal.returns-clause-row
returns-clause-row c = row_at c.args.number _ c.requires

pub returns-clause-reading : goal.returns-clause-reading
returns-clause-reading c = reading_at c.args.number _ c.requires
