use Rattle.std.proofs.Common.{ℕ}
use Rattle.hunt_command.specs.declared.input.Target.{Target}
use Rattle.hunt_command.specs.Hunts.{AreParts, GaveParts}
use Rattle.hunt_command.proofs.threads.all_parts.Given as goal

-- the parts that were put together so far, and what the other threads gave
abbrev pub invariant-loop-made : goal.invariant-loop-made
invariant-loop-made l = record {
  can : (goal.iterator-loop-made).can_next l.made-iterator;
  finite : (goal.iterator-loop-made).is_finite l.made-iterator;
  left : (target : Target) (seed from end : ℕ) → GaveParts target seed from end l.fn.told.items → GaveParts target seed from end l.made-iterator.rest.items;
  are : (target : Target) (seed from end : ℕ) → GaveParts target seed from end l.fn.told.items → AreParts target seed from end l.parts.items;
}
