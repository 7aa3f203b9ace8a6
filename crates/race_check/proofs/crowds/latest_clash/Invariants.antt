use Rattle.std.proofs.Common.{take}
use Rattle.race_check.specs.Walks.{IsOrdered}
use Rattle.race_check.specs.Crowds.{Tells}
use Rattle.race_check.proofs.crowds.latest_clash.Given as goal

abbrev pub invariant-loop-crowd : goal.invariant-loop-crowd
invariant-loop-crowd l = Tells (IsOrdered l.walk.machine) l.new (take l.crowd-index l.crowds) l.latest
