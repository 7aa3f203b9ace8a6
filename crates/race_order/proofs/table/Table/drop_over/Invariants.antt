use Rattle.std.proofs.Common.{◌≡◌, ℕ, false}
use Rattle.order_sets.specs.declared.facts.At.{At}
use Rattle.race_order.specs.declared.roles.QueueRole.{QueueRole}
use Rattle.race_order.specs.Passes.{is_over}
use Rattle.race_order.specs.Tables.{table_has, IsTableOf}
use Rattle.race_order.proofs.table.Table.drop_over.Given as goal

abbrev pub invariant-loop-live : goal.invariant-loop-live
invariant-loop-live l = record {
  has : (r : QueueRole) (at : At) → is_over l.next r ≡ false → table_has l.self r at ≡ table_has l.fn.self r at;
  chains : (chains : ℕ) → IsTableOf chains l.fn.self → IsTableOf chains l.self;
}
