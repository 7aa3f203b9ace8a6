use Rattle.std.proofs.Common.{◌≡◌, false, take}
use Rattle.std.specs.List.{list_any}
use Rattle.race_order.specs.Lives.{is_target}
use Rattle.race_order.proofs.touched.first_touched.Given as goal

abbrev pub invariant-loop-i : goal.invariant-loop-i
invariant-loop-i l = record {
  before : list_any (is_target l.target) (take l.i l.lives) ≡ false;
}
