use Rattle.std.proofs.Common.{◌≡◌, ◌++◌, take}
use Rattle.std.specs.List.{flat_map}
use Rattle.hunt_reports.specs.Livelocks.{loop_line}
use Rattle.hunt_reports.proofs.livelocks.put_loops.Given as goal

abbrev pub invariant-loop-looping : goal.invariant-loop-looping
invariant-loop-looping l = l.out.items ≡ l.fn.out.items ++ flat_map (loop_line l.places) (take l.looping-index l.loops)
