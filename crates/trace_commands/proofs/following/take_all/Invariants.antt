use Rattle.std.proofs.Common.{◌≡◌, ◌++◌, take}
use Rattle.race_order.specs.OrderedRuns.{StandsForRun}
use Rattle.trace_commands.proofs.following.take_all.Given as goal

abbrev pub ghost-take : goal.ghost-take
ghost-take g a = a.machine.now

-- the steps so far were made, and the orderer stands for the machine's run
abbrev pub invariant-loop-step : goal.invariant-loop-step
invariant-loop-step g l = record {
  stands : StandsForRun l.orderer l.machine;
  made : l.machine ≡ record l.fn.machine { steps = l.fn.machine.steps ++ take l.step-index l.steps };
}
