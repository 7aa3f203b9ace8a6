use Rattle.std.proofs.Common.{◌≡◌, ◌||◌, true, take}
use Rattle.std.specs.List.{list_any}
use Rattle.order_sets.specs.declared.facts.At.{At}
use Rattle.order_sets.specs.Holds.{in_run}
use Rattle.order_sets.proofs.runs.grown.Given as goal

-- the run so far has the run, and nothing but that and the runs so far
abbrev pub invariant-loop-r : goal.invariant-loop-r
invariant-loop-r l = (at : At) → (in_run at l.fn.run ≡ true → in_run at l.whole ≡ true) × (in_run at l.whole ≡ true → (list_any (in_run at) (take l.r-index l.runs) || in_run at l.fn.run) ≡ true)
