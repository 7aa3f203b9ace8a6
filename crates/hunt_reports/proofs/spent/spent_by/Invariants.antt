use Rattle.std.proofs.Common.{take}
use Rattle.std.specs.List.{AllZip}
use Rattle.hunt_reports.specs.Spent.{IsLoop}
use Rattle.hunt_reports.proofs.spent.spent_by.Given as goal

abbrev pub invariant-loop-here : goal.invariant-loop-here
invariant-loop-here l = AllZip (IsLoop l.run) (take l.here-index l.running) l.loops.items
