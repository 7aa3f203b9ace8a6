use Rattle.run_permute.specs.SettledLists.{AreChanged}
use Rattle.run_permute.specs.Tracks.{IsBlockClosed}
use Rattle.run_permute.proofs.track.close_blocks.Given as goal

abbrev pub ghost-close : goal.ghost-close
ghost-close g a = g.here

abbrev pub invariant-loop-k : goal.invariant-loop-k
invariant-loop-k g l = AreChanged (IsBlockClosed g.here.run g.here.place l.index) l.k l.initial.blocks l.blocks
