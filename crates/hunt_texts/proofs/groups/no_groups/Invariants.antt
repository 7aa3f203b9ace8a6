use Rattle.std.proofs.Common.{◌≡◌, ℕ, [], length, Vec}
use Rattle.std.specs.Prelude.{slice_get, Some}
use Rattle.std.specs.declared.alloc.Global.{Global}
use Rattle.hunt_tally.specs.declared.tally.Line.{Line}
use Rattle.hunt_texts.proofs.groups.no_groups.Given as goal

abbrev pub invariant-loop : goal.invariant-loop
invariant-loop l = record {
  long : length l.groups.items ≡ l.counter;
  empty : (i : ℕ) (g : Vec Line Global) → slice_get l.groups.items i ≡ Some g → g.items ≡ [];
}
