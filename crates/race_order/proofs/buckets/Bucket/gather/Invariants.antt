use Rattle.std.proofs.Common.{◌≡◌, ◌||◌, take}
use Rattle.std.specs.List.{list_any}
use Rattle.order_sets.specs.declared.facts.At.{At}
use Rattle.order_sets.specs.Stands.{has_at}
use Rattle.race_order.specs.Tables.{row_has}
use Rattle.race_order.proofs.buckets.Bucket.gather.Given as goal

abbrev pub invariant-loop-row : goal.invariant-loop-row
invariant-loop-row l = record {
  has : (at : At) → has_at l.known at ≡ (has_at l.fn.known at || list_any (row_has l.role at) (take l.row-index l.self.rows.items));
  chains : l.known.chains ≡ l.fn.known.chains;
}
