use Rattle.std.proofs.Common.{◌≡◌, ℕ, length}
use Rattle.run_permute.specs.SettledLists.{IsIn}
use Rattle.run_permute.specs.Lists.{list_at}
use Rattle.run_permute.proofs.waiting.no_waiters.Given as goal

abbrev pub invariant-loop : goal.invariant-loop
invariant-loop l = record { long : length l.waiting.items ≡ l.counter; none : (i j : ℕ) → IsIn j (list_at l.waiting.items i) → ⊥ }
