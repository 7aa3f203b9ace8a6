use Rattle.std.proofs.Common.{◌≡◌, ◌||◌, map, filter}
use Rattle.std.specs.List.{list_any}
use Rattle.order_sets.specs.declared.facts.At.{At}
use Rattle.order_sets.specs.Stands.{has_at}
use Rattle.race_order.specs.declared.roles.QueueRole.TheVariants.{Fixed}
use Rattle.race_order.specs.Ordering.{below, has_bit}
use Rattle.race_order.specs.Tables.{sets_have}
use Rattle.race_order.proofs.gathering.gather_fixed.Given as goal

abbrev pub invariant-loop-tag : goal.invariant-loop-tag
invariant-loop-tag l = record {
  has : (at : At) → has_at l.known at ≡ (has_at l.fn.known at || list_any (λ r. sets_have l.sets r at) (map (Fixed l.spe) (filter (has_bit l.groups) (below l.tag))));
  chains : l.known.chains ≡ l.fn.known.chains;
}
