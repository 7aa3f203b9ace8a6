use Rattle.std.proofs.Common.{arith}
use Rattle.spu_bits.proofs.GatherLemmas.{one_bit_more}
use Rattle.spu_bits.proofs.masks.low_bits_of_bytes.Goals as goal

pub loop-x-preserved : goal.loop-x-preserved
loop-x-preserved c = one_bit_more c.loop-x.bits c.loop-x.x-index _ c.args.lanes.now (omega arith) (omega arith) c.from.ensures c.loop-x.invariant
