use Rattle.std.proofs.Common.{◌≤◌, length}
use Rattle.spu_asm.specs.Listings.{listed_from}
use Rattle.spu_asm.specs.Source.{lines_left, IsLeft}
use Rattle.spu_asm.proofs.ListingLemmas.{Lists}
use Rattle.spu_asm.proofs.listing.listed_lines.Given as goal

abbrev pub invariant-loop-unread : goal.invariant-loop-unread
invariant-loop-unread l = record {
  lists : Lists l.found.items l.text_at l.data_at (lines_left l.text l.unread) (listed_from 0 l.start (lines_left l.text l.lines));
  text_bound : l.text_at ≤ 262144;
  data_bound : l.data_at ≤ 262144;
  left : IsLeft l.text l.unread;
}

abbrev pub decreases-loop-unread : goal.decreases-loop-unread
decreases-loop-unread l = length l.unread.tokens.now
