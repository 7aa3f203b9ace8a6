use Rattle.std.proofs.Common.{ℕ, ◌<◌, Some}
use Rattle.std.specs.Prelude.{slice_index_or}
use Rattle.run_permute.specs.Tracks.{IsNotAbove}
use Rattle.run_permute.specs.declared.strand.Strand.{Strand}
use Rattle.run_permute.proofs.block.high_of.Given as goal

abbrev pub invariant-loop-strand : goal.invariant-loop-strand
invariant-loop-strand l = (k : ℕ) (d : Strand) → k < l.strand-index → IsNotAbove (Some l.high) (slice_index_or l.strands k d).until
