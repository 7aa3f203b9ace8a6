use Rattle.std.proofs.Common.{◌≡◌, ◌++◌, take}
use Rattle.std.specs.List.{flat_map}
use Rattle.hunt_reports.specs.Waits.{running_line}
use Rattle.hunt_reports.proofs.waits.put_all_running.Given as goal

abbrev pub invariant-loop-location : goal.invariant-loop-location
invariant-loop-location l = l.out.items ≡ l.fn.out.items ++ flat_map (running_line l.places l.does) (take l.location-index l.running)
