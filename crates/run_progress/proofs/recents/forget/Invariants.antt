use Rattle.std.proofs.Common.{◌≡◌, ℕ, ◌<◌, [], length, Some}
use Rattle.std.specs.Prelude.{slice_get}
use Rattle.run_progress.specs.declared.recent.Recent.{Recent}
use Rattle.run_progress.proofs.recents.forget.Given as goal

abbrev pub invariant-loop-i : goal.invariant-loop-i
invariant-loop-i l =
    record {
      none : (p : ℕ) (r : Recent) → p < l.i → slice_get l.recent p ≡ Some r → r.addresses.items ≡ [];
      many : length l.recent ≡ length l.initial.recent;
    }
