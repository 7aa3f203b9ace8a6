use Rattle.std.proofs.Common.{◌≡◌, ◌<◌, ◌&&◌, ◌||◌, ℕ, false, length, nat_le, nat_lt, slice_index_or}
use Rattle.cell_load.proofs.rows.mark.Given as goal

abbrev pub invariant-loop-k : goal.invariant-loop-k
invariant-loop-k l = (j : ℕ) → j < length l.fn.marks → slice_index_or l.marks j false ≡ (slice_index_or l.fn.marks j false || (nat_le l.from j && nat_lt j l.k))
