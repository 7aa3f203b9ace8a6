use Rattle.std.proofs.Common.{◌≡◌, ◌++◌, take}
use Rattle.cell_trace.proofs.following.follow.Given as goal

-- the steps so far were made
abbrev pub invariant-loop-step : goal.invariant-loop-step
invariant-loop-step l = l.m ≡ record l.fn.m { steps = l.fn.m.steps ++ take l.step-index l.steps }
