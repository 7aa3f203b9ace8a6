use Rattle.std.proofs.Common.{◌≡◌, ◌+◌, ◌*◌, All, false, length}
use Rattle.order_sets.specs.declared.facts.At.{At}
use Rattle.race_order.specs.declared.own.Own.{Own}
use Rattle.race_order.specs.Tables.{own_has, IsOwnOf}
use Rattle.race_order.proofs.sets.empty_sets.Given as goal

abbrev pub invariant-loop-spe : goal.invariant-loop-spe
invariant-loop-spe l = record {
  long : length l.sets.items ≡ l.spe;
  chains : All (IsOwnOf (3 * l.spes + 1)) l.sets.items;
  empty : All (λ (own : Own). (at : At) → own_has own at ≡ false) l.sets.items;
}
