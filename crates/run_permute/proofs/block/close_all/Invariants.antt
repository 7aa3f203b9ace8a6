use Rattle.run_permute.specs.SettledLists.{AreChanged}
use Rattle.run_permute.specs.Tracks.{IsClosed}
use Rattle.run_permute.proofs.block.close_all.Given as goal

abbrev pub ghost-close : goal.ghost-close
ghost-close g a = g.here

abbrev pub invariant-loop-k : goal.invariant-loop-k
invariant-loop-k g l = AreChanged (IsClosed g.here.run g.here.place l.index) l.k l.initial.strands l.strands
