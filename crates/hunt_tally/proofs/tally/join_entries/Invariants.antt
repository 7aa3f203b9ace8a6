use Rattle.std.proofs.Common.{◌≡◌, ℕ}
use Rattle.hunt_tally.specs.Joins.{joined, Fits}
use Rattle.hunt_tally.specs.Views.{entries_in}
use Rattle.hunt_tally.proofs.tally.join_entries.Given as goal

-- what is left makes of these what all of them make of the first ones
abbrev pub invariant-loop-key : goal.invariant-loop-key
invariant-loop-key l = record {
  can : (goal.iterator-loop-key).can_next l.key-iterator;
  finite : (goal.iterator-loop-key).is_finite l.key-iterator;
  taken : joined l.before (entries_in l.entries.entries) (entries_in l.key-iterator) ≡ joined l.before (entries_in l.initial.entries.entries) (entries_in l.fn.behind.entries);
  fits : (runs : ℕ) → Fits l.before runs (entries_in l.initial.entries.entries) (entries_in l.fn.behind.entries) → Fits l.before runs (entries_in l.entries.entries) (entries_in l.key-iterator);
}
