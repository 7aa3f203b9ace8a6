use Rattle.std.proofs.Common.{◌≡◌, ℕ, ◌-◌, ◌<◌, ◌≤◌}
use Rattle.std.specs.Prelude.{not}
use Rattle.unwritten_reads.specs.Marks.{is_marked}
use Rattle.unwritten_reads.proofs.known.Known.first.Given as goal

abbrev pub invariant-loop-from : goal.invariant-loop-from
invariant-loop-from l = record { after : l.range.from ≤ l.from; none : (b : ℕ) → l.range.from ≤ b → b < l.from → is_marked l.self.marks b ≡ not l.is_in }

abbrev pub decreases-loop-from : goal.decreases-loop-from
decreases-loop-from l = l.range.end - l.from
