use Rattle.std.proofs.Common.{◌≡◌, ◌+◌}
use Rattle.hunt_tally.specs.Kinds.{kinds_in, runs_of, with_kinds}
use Rattle.hunt_tally.proofs.kinds.Kinds.join.Given as goal

-- what is left makes of these what all of them make of the first ones
abbrev pub invariant-loop-digest : goal.invariant-loop-digest
invariant-loop-digest l = record {
  can : (goal.iterator-loop-digest).can_next l.digest-iterator;
  finite : (goal.iterator-loop-digest).is_finite l.digest-iterator;
  taken : with_kinds l.self (kinds_in l.digest-iterator) ≡ with_kinds l.initial.self l.fn.other;
  runs : runs_of l.self + runs_of (kinds_in l.digest-iterator) ≡ runs_of l.initial.self + runs_of l.fn.other;
}
