use Rattle.std.proofs.Common.{◌≡◌, map}
use Rattle.std.specs.List.{list_any}
use Rattle.race_order.specs.Ordering.{below, fix_move}
use Rattle.race_order.specs.Passes.{AreMoved}
use Rattle.race_order.specs.Tables.{sets_have, AreOf}
use Rattle.race_order.proofs.passes.pass_tags.Given as goal

abbrev pub invariant-loop-tag : goal.invariant-loop-tag
invariant-loop-tag l = record {
  has : AreMoved (λ g. list_any g (map (fix_move l.spe) (below l.tag))) (sets_have l.fn.sets) (sets_have l.sets);
  chains : AreOf (l.spare.chains) l.sets;
  spare : l.spare.chains ≡ l.fn.spare.chains;
}
