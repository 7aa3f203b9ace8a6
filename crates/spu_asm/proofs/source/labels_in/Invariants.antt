use Rattle.std.proofs.Common.{length}
use Rattle.spu_asm.specs.Source.{labels_view, IsLeft}
use Rattle.spu_asm.proofs.SourceLemmas.{Reads}
use Rattle.spu_asm.proofs.source.labels_in.Given as goal

abbrev pub invariant-loop-unread : goal.invariant-loop-unread
invariant-loop-unread l = record {
  reads : Reads l.text l.unread.number l.unread.section (labels_view l.labels.entries) l.unread.tokens.now l.tokens;
  left : IsLeft l.text l.unread;
}

abbrev pub decreases-loop-unread : goal.decreases-loop-unread
decreases-loop-unread l = length l.unread.tokens.now
