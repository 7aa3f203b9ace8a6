use Rattle.std.proofs.Common.{◌≤◌}
use Rattle.hunt_command.specs.Hunts.{HasTaken, AreParts}
use Rattle.hunt_command.proofs.parts.take_parts.Given as goal

-- what was taken in so far, and the parts that are left
abbrev pub invariant-loop-part : goal.invariant-loop-part
invariant-loop-part l = record {
  can : (goal.iterator-loop-part).can_next l.part-iterator;
  finite : (goal.iterator-loop-part).is_finite l.part-iterator;
  left : AreParts l.target l.seed l.from l.end l.part-iterator.rest.items;
  taken : HasTaken l.target l.seed l.from l.made l.sums;
  within : l.made ≤ l.end;
}
