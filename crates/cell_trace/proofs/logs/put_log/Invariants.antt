use Rattle.std.proofs.Common.{◌≡◌, ◌++◌, take, drop}
use Rattle.cell_trace.specs.Effects.{refused_in}
use Rattle.cell_trace.specs.Logs.{logs_in}
use Rattle.cell_trace.proofs.logs.put_log.Given as goal

-- what was written, in front of the lines of the steps that are left, is the lines of all
abbrev pub invariant-loop-step : goal.invariant-loop-step
invariant-loop-step l = record {
  lines : l.out.items ++ logs_in l.m (drop l.step-index l.steps) ≡ l.fn.out.items ++ logs_in l.fn.m l.steps;
  refused : refused_in l.m (drop l.step-index l.steps) ≡ refused_in l.fn.m l.steps;
  made : l.m ≡ record l.fn.m { steps = l.fn.m.steps ++ take l.step-index l.steps };
}
