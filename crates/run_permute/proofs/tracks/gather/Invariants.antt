use Rattle.std.proofs.Common.{ℕ, ◌<◌}
use Rattle.std.specs.Prelude.{slice_index_or}
use Rattle.reorder_laws.specs.OrderedLaws.{IsOrdered}
use Rattle.run_permute.specs.SettledLists.{IsIn}
use Rattle.run_permute.specs.Tracks.{CoversTrack, IsEnd}
use Rattle.run_permute.specs.declared.track.Track.{Track}
use Rattle.run_permute.proofs.tracks.gather.Given as goal

abbrev pub ghost-gather : goal.ghost-gather
ghost-gather g a = g.here

abbrev pub invariant-loop-k : goal.invariant-loop-k
invariant-loop-k g l =
    record {
      sound : (k : ℕ) → IsIn k l.needs.items → IsOrdered g.here.run k g.here.place;
      covers : (k : ℕ) (d : Track) → k < l.k → CoversTrack g.here.run g.here.place (slice_index_or l.tracks k d) l.needs.items;
      end : (d : Track) → l.own < l.k → IsEnd g.here.run g.here.place (slice_index_or l.tracks l.own d).chain.items l.spot.end;
    }
