use Rattle.std.proofs.Common.{◌≡◌, ◌++◌, length, None}
use Rattle.hunt_texts.specs.Unexecuted.{spans_from}
use Rattle.hunt_texts.proofs.unexecuted.spans_of.Given as goal

abbrev pub invariant-loop-line : goal.invariant-loop-line
invariant-loop-line l = l.spans.items ++ spans_from l.begun l.rest ≡ spans_from None l.lines

abbrev pub decreases-loop-line : goal.decreases-loop-line
decreases-loop-line l = length l.rest
