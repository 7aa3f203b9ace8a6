use Rattle.std.proofs.Common.{◌≡◌, ℕ, ◌||◌, drop}
use Rattle.hunt_tally.specs.Executed.{is_among, is_marked}
use Rattle.hunt_tally.proofs.executed.mark_all.Given as goal

-- with those that are left it is all
abbrev pub invariant-loop-number : goal.invariant-loop-number
invariant-loop-number l = (n : ℕ) → (is_marked l.marks.items n || is_among n (drop l.number-index l.numbers)) ≡ (is_marked l.initial.marks.items n || is_among n l.numbers)
