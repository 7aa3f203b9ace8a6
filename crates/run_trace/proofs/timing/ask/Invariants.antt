use Rattle.std.specs.Prelude.{◌≤◌}
use Rattle.run_trace.proofs.timing.ask.Given as goal

abbrev pub ghost-is_before : goal.ghost-is_before
ghost-is_before g a = g.m

abbrev pub invariant-loop-question : goal.invariant-loop-question
invariant-loop-question g l = l.ordered ≤ l.question
