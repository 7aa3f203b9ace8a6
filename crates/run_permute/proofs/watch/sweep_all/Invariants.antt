use Rattle.run_permute.specs.SettledLists.{AreChanged}
use Rattle.run_permute.specs.Watches.{IsSwept}
use Rattle.run_permute.proofs.watch.sweep_all.Given as goal

abbrev pub ghost-sweep : goal.ghost-sweep
ghost-sweep g a = g.here

abbrev pub invariant-loop-i : goal.invariant-loop-i
invariant-loop-i g l = AreChanged (IsSwept g.here.run g.here.place) l.i l.initial.kept l.kept
