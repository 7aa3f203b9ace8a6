use Rattle.std.proofs.Common.{◌≡◌, length}
use Rattle.reorder_laws.specs.OrderedLaws.{IsOrdered}
use Rattle.run_permute.specs.Nth.{AreChosen}
use Rattle.run_permute.specs.Choices.{IsStage}
use Rattle.run_permute.proofs.choosing.order_of_number.Given as goal

abbrev pub invariant-loop-taken : goal.invariant-loop-taken
invariant-loop-taken l =
    record {
      count : length l.order.steps.items ≡ l.taken;
      stage : IsStage l.needs l.order;
      chosen : AreChosen (IsOrdered l.whole) (length l.whole.steps) l.number l.order.steps.items;
    }
