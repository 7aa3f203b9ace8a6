use Rattle.std.proofs.Common.{◌≡◌, ℕ, max, get_or, take}
use Rattle.order_sets.proofs.known.raise_all.Given as goal

abbrev pub invariant-loop-i : goal.invariant-loop-i
invariant-loop-i l = (k : ℕ) → get_or l.ends k 0 ≡ max (get_or l.fn.ends k 0) (get_or (take l.i l.other) k 0)
