use Rattle.std.proofs.Common.{◌≡◌, length}
use Rattle.spu_asm.specs.Reading.{Within}
use Rattle.spu_asm.specs.Source.{labels_of, with_labels, labels_view}
use Rattle.spu_asm.proofs.labels.add_labels.Given as goal

abbrev pub invariant-loop-rest : goal.invariant-loop-rest
invariant-loop-rest l = record {
  added : with_labels (labels_view l.labels.entries) l.number (labels_of l.text l.rest) ≡ with_labels (labels_view l.fn.labels.entries) l.number (labels_of l.text l.line);
  within : Within l.text l.rest;
}

abbrev pub decreases-loop-rest : goal.decreases-loop-rest
decreases-loop-rest l = length l.rest
