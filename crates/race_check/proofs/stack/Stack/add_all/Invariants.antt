use Rattle.std.proofs.Common.{ℕ, ◌⊎◌, take}
use Rattle.std.specs.Prelude.{◌↔◌, Contains}
use Rattle.race_check.proofs.stack.Stack.add_all.Given as goal

-- the first of the others were added
abbrev pub invariant-loop-k : goal.invariant-loop-k
invariant-loop-k l = (s : ℕ) → Contains l.self.list.items s ↔ (Contains l.initial.self.list.items s ⊎ Contains (take l.k l.others) s)
