use Rattle.std.proofs.Common.{◌≡◌, map, take}
use Rattle.hunt_reports.specs.Lists.{bytes_in}
use Rattle.hunt_reports.specs.Places.{key_of}
use Rattle.hunt_command.proofs.input.keys_of.Given as goal

-- the keys of the races so far
abbrev pub invariant-loop-race : goal.invariant-loop-race
invariant-loop-race l = bytes_in l.keys.items ≡ map (key_of l.places) (take l.race-index l.races)
