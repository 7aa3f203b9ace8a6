use Rattle.std.proofs.Common.{◌≡◌, ℕ, ◌||◌, ◌&&◌}
use Rattle.std.specs.Prelude.{nat_lt}
use Rattle.hunt_tally.specs.Executed.{is_marked}
use Rattle.hunt_tally.proofs.executed.mark_marked.Given as goal

-- the marks of the numbers so far
abbrev pub invariant-loop-number : goal.invariant-loop-number
invariant-loop-number l = (n : ℕ) → is_marked l.marks.items n ≡ (is_marked l.initial.marks.items n || (nat_lt n l.number && is_marked l.others n))
