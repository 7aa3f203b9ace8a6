use Rattle.std.proofs.Common.{◌≡◌, map}
use Rattle.hunt_tally.specs.Reports.{line_told}
use Rattle.hunt_tally.proofs.tellings.missed_told.Given as goal

abbrev pub invariant-loop-key : goal.invariant-loop-key
invariant-loop-key l = record {
  can : (goal.iterator-loop-key).can_next l.key-iterator;
  finite : (goal.iterator-loop-key).is_finite l.key-iterator;
  told : l.tellings.items ≡ map line_told (map (λ line. line.items) l.yielded);
}
