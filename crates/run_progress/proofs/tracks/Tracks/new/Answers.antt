use Rattle.std.proofs.Common.{refl, ap}
use Rattle.run_progress.specs.Progress.{last_change}
use Rattle.run_progress.specs.Tracks.{last_write}
use Rattle.run_progress.proofs.tracks.Tracks.new.Goals as goal

pub returns : goal.returns
unfolding last_change
returns c = record {
  change_is = refl;
  recent = c.in_ok-recent.ensures.recent;
  spes_recent = c.in_ok-recent.ensures.many;
  reads = c.in_ok-reads.ensures.reads;
  spes_read = c.in_ok-reads.ensures.many;
  writes = λ read. ap (last_write read) c.new.ensures.items;
}
