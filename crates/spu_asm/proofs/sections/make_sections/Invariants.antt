use Rattle.std.proofs.Common.{◌≡◌, drop, length}
use Rattle.spu_asm.specs.Assembling.{sections_of, sections_view}
use Rattle.spu_asm.specs.Source.{lines_left, labels_view, IsLeft}
use Rattle.spu_asm.proofs.SectionLemmas.{Makes}
use Rattle.spu_asm.proofs.sections.make_sections.Given as goal

abbrev pub invariant-loop-at : goal.invariant-loop-at
invariant-loop-at l = record {
  makes : Makes l.text (labels_view l.labels.entries) l.places (sections_view l.made) (lines_left l.text l.unread) (drop l.at-index l.places) (sections_of l.text (labels_view l.labels.entries) l.places (lines_left l.text l.lines) l.places);
  len : length (drop l.at-index l.places) ≡ length (lines_left l.text l.unread);
  left : IsLeft l.text l.unread;
}
