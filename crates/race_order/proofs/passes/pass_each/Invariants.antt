use Rattle.std.proofs.Common.{◌≡◌, take}
use Rattle.std.specs.List.{list_any}
use Rattle.race_order.specs.Passes.{AreMoved, done_any}
use Rattle.race_order.specs.Tables.{sets_have, AreOf}
use Rattle.race_order.proofs.passes.pass_each.Given as goal

abbrev pub invariant-loop-c : goal.invariant-loop-c
invariant-loop-c l = record {
  has : AreMoved (λ g. list_any (done_any g l.next) (take l.c-index l.next)) (sets_have l.fn.sets) (sets_have l.sets);
  chains : AreOf (l.spare.chains) l.sets;
  spare : l.spare.chains ≡ l.fn.spare.chains;
}
