use Rattle.std.proofs.Common.{refl}
use Rattle.spu_decode.specs.Table.{entry_of}
use Rattle.spu_decode.proofs.names.mnemonics.Goals as goal

pub returns : goal.returns
unfolding entry_of
returns c = refl
