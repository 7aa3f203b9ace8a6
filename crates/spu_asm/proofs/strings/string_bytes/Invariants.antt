use Rattle.std.proofs.Common.{length}
use Rattle.spu_asm.specs.Strings.{string_value}
use Rattle.spu_asm.proofs.Counting.{Spells}
use Rattle.spu_asm.proofs.strings.string_bytes.Given as goal

abbrev pub invariant-loop-rest : goal.invariant-loop-rest
invariant-loop-rest l = Spells l.out.items l.rest (string_value l.quoted)

abbrev pub decreases-loop-rest : goal.decreases-loop-rest
decreases-loop-rest l = length l.rest
