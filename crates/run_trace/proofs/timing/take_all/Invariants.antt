use Rattle.race_order.specs.OrderedRuns.{StandsForRun}
use Rattle.run_trace.proofs.timing.take_all.Given as goal

abbrev pub ghost-take : goal.ghost-take
ghost-take g a = a.machine.now

abbrev pub ghost-ask : goal.ghost-ask
ghost-ask g a = a.machine.now

-- the orderer stands for the machine's run
abbrev pub invariant-loop-step : goal.invariant-loop-step
invariant-loop-step g l = StandsForRun l.orderer l.machine
