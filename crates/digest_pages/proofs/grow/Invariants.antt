use Rattle.std.proofs.Common.{◌≡◌, ◌≤◌, ◌+◌, ℕ, [], length, ◌-◌}
use Rattle.std.specs.Prelude.{max, slice_index_or}
use Rattle.digest_pages.proofs.grow.Given as goal

abbrev pub invariant-loop-alloc : goal.invariant-loop-alloc
invariant-loop-alloc l =
    record {
      few : length l.pages.items ≤ max (length l.initial.pages.items) (l.index + 1);
      same : (k : ℕ) → slice_index_or l.pages.items k [] ≡ slice_index_or l.initial.pages.items k [];
    }

abbrev pub decreases-loop-alloc : goal.decreases-loop-alloc
decreases-loop-alloc l = l.index + 1 - length l.pages.items
