use Rattle.std.proofs.Common.{◌≡◌, length}
use Rattle.spu_asm.specs.Reading.{Within}
use Rattle.spu_asm.specs.Source.{after_labels}
use Rattle.spu_asm.proofs.labels.after_labels.Given as goal

abbrev pub invariant-loop-rest : goal.invariant-loop-rest
invariant-loop-rest l = record {
  after : after_labels l.text l.rest ≡ after_labels l.text l.line;
  within : Within l.text l.rest;
}

abbrev pub decreases-loop-rest : goal.decreases-loop-rest
decreases-loop-rest l = length l.rest
