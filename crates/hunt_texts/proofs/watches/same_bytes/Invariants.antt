use Rattle.std.proofs.Common.{◌≡◌, ◌+◌, drop}
use Rattle.hunt_texts.specs.Watches.{same_bytes}
use Rattle.hunt_texts.proofs.watches.same_bytes.Given as goal

abbrev pub invariant-loop-place : goal.invariant-loop-place
invariant-loop-place l = l.place + same_bytes (drop l.place l.line) (drop l.place l.other) ≡ same_bytes l.line l.other
