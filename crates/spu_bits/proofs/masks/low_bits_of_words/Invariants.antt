use Rattle.std.proofs.Common.{◌≡◌, ◌<◌, ◌^◌, take}
use Rattle.spu_bits.specs.Rows.{low_bits}
use Rattle.spu_bits.proofs.masks.low_bits_of_words.Given as goal

abbrev pub invariant-loop-x : goal.invariant-loop-x
invariant-loop-x l = (l.bits < 2 ^ l.x-index) × (l.bits ≡ low_bits (take l.x-index l.lanes))
