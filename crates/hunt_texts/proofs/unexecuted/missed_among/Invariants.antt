use Rattle.std.proofs.Common.{◌≡◌, ◌++◌, length}
use Rattle.hunt_texts.specs.Unexecuted.{missed_among}
use Rattle.hunt_texts.proofs.unexecuted.missed_among.Given as goal

abbrev pub invariant-loop-line : goal.invariant-loop-line
invariant-loop-line l = l.missed.items ++ missed_among l.rest ≡ missed_among l.lines

abbrev pub decreases-loop-line : goal.decreases-loop-line
decreases-loop-line l = length l.rest
