use Rattle.std.proofs.Common.{◌≡◌, ◌++◌, take}
use Rattle.std.specs.List.{flat_map}
use Rattle.hunt_reports.specs.Waits.{location_key}
use Rattle.hunt_reports.proofs.waits.put_keys.Given as goal

abbrev pub invariant-loop-location : goal.invariant-loop-location
invariant-loop-location l = l.out.items ≡ l.fn.out.items ++ flat_map (location_key l.places) (take l.location-index l.running)
