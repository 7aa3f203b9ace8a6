use Rattle.spu_decode.proofs.ReadingLemmas.{read}
use Rattle.spu_decode.proofs.fields.read_fields.Goals as goal

pub returns : goal.returns
returns c = read c.args.reading c.args.w c.requires c.masked.ensures c.masked-2.ensures c.masked-3.ensures c.masked-4.ensures
