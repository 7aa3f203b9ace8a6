use Rattle.std.proofs.Common.{◌≡◌, ◌≤◌, length}
use Rattle.spu_asm.specs.declared.syntax.Section.TheVariants.{Text}
use Rattle.spu_asm.specs.Layout.{section_end}
use Rattle.spu_asm.specs.Source.{lines_left, IsLeft}
use Rattle.spu_asm.proofs.layout.text_end.Given as goal

abbrev pub invariant-loop-unread : goal.invariant-loop-unread
invariant-loop-unread l = record {
  end : section_end Text l.at (lines_left l.text l.unread) ≡ section_end Text 0 (lines_left l.text l.lines);
  bound : l.at ≤ 262144;
  left : IsLeft l.text l.unread;
}

abbrev pub decreases-loop-unread : goal.decreases-loop-unread
decreases-loop-unread l = length l.unread.tokens.now
