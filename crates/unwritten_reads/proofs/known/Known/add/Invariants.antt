use Rattle.std.proofs.Common.{◌≡◌, ℕ, ◌-◌, ◌≤◌, length}
use Rattle.std.specs.Prelude.{◌||◌, max}
use Rattle.unwritten_reads.specs.Marks.{is_marked}
use Rattle.unwritten_reads.specs.Ranges.{in_range}
use Rattle.unwritten_reads.proofs.Words.{up_to}
use Rattle.unwritten_reads.proofs.known.Known.add.Given as goal

abbrev pub invariant-loop-from : goal.invariant-loop-from
invariant-loop-from l =
    record {
      after : l.range.from ≤ l.from;
      top : l.from ≤ max l.range.from l.range.end;
      long : length l.self.marks ≡ length l.initial.self.marks;
      marked : (b : ℕ) → is_marked l.self.marks b ≡ (is_marked l.initial.self.marks b || in_range (up_to l.range l.from) b);
    }

abbrev pub decreases-loop-from : goal.decreases-loop-from
decreases-loop-from l = l.range.end - l.from
