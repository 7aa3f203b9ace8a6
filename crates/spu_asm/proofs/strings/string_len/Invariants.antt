use Rattle.std.proofs.Common.{◌+◌, ◌≤◌, length}
use Rattle.spu_asm.specs.Strings.{string_value}
use Rattle.spu_asm.proofs.Counting.{Counts}
use Rattle.spu_asm.proofs.strings.string_len.Given as goal

abbrev pub invariant-loop-rest : goal.invariant-loop-rest
invariant-loop-rest l = record {
  counts : Counts l.len l.rest (length (string_value l.quoted));
  place : l.len + length l.rest ≤ length l.quoted;
}

abbrev pub decreases-loop-rest : goal.decreases-loop-rest
decreases-loop-rest l = length l.rest
