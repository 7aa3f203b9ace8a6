use Rattle.std.proofs.Common.{◌≡◌, ◌<◌, ◌≤◌, ◌+◌, ◌++◌, length}
use Rattle.cell_base.specs.Words.{lines_of}
use Rattle.trace_commands.specs.Plans.{plan_from, plan_text}
use Rattle.trace_commands.proofs.plan.plan_text.Given as goal

abbrev pub invariant-loop-rest : goal.invariant-loop-rest
invariant-loop-rest l = record {
  few : l.number + length l.rest ≤ length l.text + 1;
  spes : l.spes < l.number;
  -- what was written, in front of the plan of the rest
  so_far : l.out.items ++ plan_from l.number l.spes (lines_of l.rest) ≡ plan_text l.text;
}

abbrev pub decreases-loop-rest : goal.decreases-loop-rest
decreases-loop-rest l = length l.rest
