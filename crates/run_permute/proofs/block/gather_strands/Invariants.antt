use Rattle.std.proofs.Common.{ℕ, ◌<◌, ◌⊎◌}
use Rattle.std.specs.Prelude.{slice_index_or}
use Rattle.reorder_laws.specs.OrderedLaws.{IsOrdered}
use Rattle.run_permute.specs.SettledLists.{IsIn}
use Rattle.run_permute.specs.Tracks.{IsFound}
use Rattle.run_permute.specs.declared.strand.Strand.{Strand}
use Rattle.run_permute.proofs.block.gather_strands.Given as goal

abbrev pub ghost-gather : goal.ghost-gather
ghost-gather g a = g.here

abbrev pub invariant-loop-k : goal.invariant-loop-k
invariant-loop-k g l =
    record {
      kept : (k : ℕ) → IsIn k l.initial.needs.items → IsIn k l.needs.items;
      sound : (k : ℕ) → IsIn k l.needs.items → IsIn k l.initial.needs.items ⊎ IsOrdered g.here.run k g.here.place;
      found : (k : ℕ) (d : Strand) → k < l.k → IsFound g.here.run g.here.place l.end l.needs.items (slice_index_or l.strands k d);
    }
