use Rattle.std.proofs.Common.{◌≡◌, map, take, drop, ◌++◌}
use Rattle.std.specs.List.{list_any}
use Rattle.race_order.specs.Lives.{moved}
use Rattle.race_order.specs.Passes.{AreMoved, stall_any}
use Rattle.race_order.specs.Tables.{sets_have, AreOf}
use Rattle.race_order.proofs.going.go_on_all.Given as goal

abbrev pub invariant-loop-i : goal.invariant-loop-i
invariant-loop-i l = record {
  next : l.lives ≡ map (λ x. moved x l.brought.step l.brought.effect.now.note) (take l.i l.fn.lives) ++ drop l.i l.fn.lives;
  has : AreMoved (λ g. list_any (stall_any g l.brought.step l.brought.effect.now.note) (take l.i l.fn.lives)) (sets_have l.fn.sets) (sets_have l.sets);
  chains : AreOf (l.spare.chains) l.sets;
  spare : l.spare.chains ≡ l.fn.spare.chains;
  done : l.done ≡ list_any (λ x. x.progress.done) (map (λ x. moved x l.brought.step l.brought.effect.now.note) (take l.i l.fn.lives));
}
