use Rattle.std.proofs.Common.{◌≡◌, ℕ, [], length, Some}
use Rattle.std.specs.Prelude.{slice_get}
use Rattle.run_progress.specs.declared.recent.Recent.{Recent}
use Rattle.run_progress.proofs.recents.no_recent.Given as goal

abbrev pub invariant-loop : goal.invariant-loop
invariant-loop l =
    record {
      none : (p : ℕ) (r : Recent) → slice_get l.recent.items p ≡ Some r → r.addresses.items ≡ [];
      many : length l.recent.items ≡ l.counter;
    }
