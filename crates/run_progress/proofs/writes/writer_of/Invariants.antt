use Rattle.std.proofs.Common.{◌≡◌, ◌≤◌, length, take}
use Rattle.run_progress.specs.Tracks.{last_write}
use Rattle.run_progress.proofs.writes.writer_of.Given as goal

-- the last write is among the first ones
abbrev pub invariant-loop-left : goal.invariant-loop-left
invariant-loop-left l =
    record {
      within : l.left ≤ length l.writes;
      none : last_write l.read l.writes ≡ last_write l.read (take l.left l.writes);
    }

abbrev pub decreases-loop-left : goal.decreases-loop-left
decreases-loop-left l = l.left
