use Rattle.std.proofs.Common.{◌≡◌, ℕ, ◌<◌, length, get_or}
use Rattle.cell_base.proofs.quad.Quad.halves_from_fn.Given as goal

-- the lanes below k are what f gave
abbrev pub invariant-loop-k : goal.invariant-loop-k
invariant-loop-k g l = (length l.lanes ≡ 8) × ((k : ℕ) → k < l.k → g.F.Fn.post l.f (k, tt) (get_or l.lanes k 0))
