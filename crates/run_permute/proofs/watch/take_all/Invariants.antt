use Rattle.run_permute.specs.SettledLists.{AreChanged}
use Rattle.run_permute.specs.Watches.{IsTaken}
use Rattle.run_permute.proofs.watch.take_all.Given as goal

abbrev pub invariant-loop-i : goal.invariant-loop-i
invariant-loop-i l = AreChanged (IsTaken l.spe l.place l.step l.note) l.i l.initial.kept l.kept
