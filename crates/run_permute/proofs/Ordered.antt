-- The order of the steps of a run.
use Rattle.std.proofs.Common.{ℕ, ◌<◌}
use Rattle.cell_machine.specs.Run.{Ran}
use Rattle.race_order.specs.Rules.{Rule}
use Rattle.race_order.specs.Told.{trace_in}
use Rattle.race_order.proofs.Holding.{ordered_trans, ordered_up}
use Rattle.reorder_laws.specs.OrderedLaws.{IsOrdered}

pub ordered-trans : (m : Ran) (i k j : ℕ) → IsOrdered m i k → IsOrdered m k j → IsOrdered m i j
ordered-trans m i k j o p = ordered_trans Rule (trace_in m) i k j o p

pub ordered-up : (m : Ran) (i j : ℕ) → IsOrdered m i j → i < j
ordered-up m i j o = ordered_up Rule (trace_in m) i j o
