use Rattle.std.proofs.Common.{◌≡◌, List, [], ◌∷◌, ◌++◌, length}
use Rattle.hunt_tally.specs.Tallies.{Tells, entries_of}
use Rattle.hunt_tally.specs.Views.{entries_in}
use Rattle.hunt_tally.proofs.tally.take_run.Given as goal

abbrev pub invariant-loop-telling : goal.invariant-loop-telling
invariant-loop-telling l = record {
  can : (goal.iterator-loop-telling).can_next l.telling-iterator;
  finite : (goal.iterator-loop-telling).is_finite l.telling-iterator;
  whole : l.yielded ++ l.telling-iterator.rest.items ≡ l.fn.tellings.items;
  taken : (runs : List (List Tells)) → length runs ≡ l.run → entries_in l.initial.entries.entries ≡ entries_of runs → entries_in l.entries.entries ≡ entries_of (runs ++ l.yielded ∷ []);
}
