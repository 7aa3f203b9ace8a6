use Rattle.std.proofs.Common.{◌≡◌, ◌<◌, ◌^◌, length}
use Rattle.cell_base.specs.Numbers.{digits_at}
use Rattle.hunt_command.proofs.numbers.digits_within.Given as goal

abbrev pub invariant-loop-b : goal.invariant-loop-b
invariant-loop-b l = record { below : l.n < 2 ^ 70; whole : digits_at l.n l.rest ≡ digits_at l.first l.bytes }

abbrev pub decreases-loop-b : goal.decreases-loop-b
decreases-loop-b l = length l.rest
