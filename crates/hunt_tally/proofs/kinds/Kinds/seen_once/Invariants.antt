use Rattle.std.proofs.Common.{◌≡◌, take}
use Rattle.hunt_tally.specs.Kinds.{seen_once}
use Rattle.hunt_tally.proofs.kinds.Kinds.seen_once.Given as goal

abbrev pub invariant-loop-place : goal.invariant-loop-place
invariant-loop-place l = l.once ≡ seen_once (take l.place l.self)
