use Rattle.std.proofs.Common.{◌≡◌, ℕ, [], length}
use Rattle.race_order.specs.Lives.{lives_of}
use Rattle.race_order.proofs.lives.no_lives.Given as goal

abbrev pub invariant-loop : goal.invariant-loop
invariant-loop l = record {
  long : length l.lists.items ≡ l.counter;
  none : (p : ℕ) → lives_of l.lists.items p ≡ [];
}
