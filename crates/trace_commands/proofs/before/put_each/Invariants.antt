use Rattle.std.proofs.Common.{◌≡◌, take}
use Rattle.race_order.specs.OrderedRuns.{StandsForRun}
use Rattle.trace_commands.specs.Told.{Adds, TellsLines}
use Rattle.trace_commands.proofs.before.put_each.Given as goal

abbrev pub ghost-put_next : goal.ghost-put_next
ghost-put_next g a = a.machine.now

-- the steps so far were made, and their lines were added
abbrev pub invariant-loop-step : goal.invariant-loop-step
invariant-loop-step g l = record {
  stands : StandsForRun l.orderer l.machine;
  made : l.machine ≡ record { setup = g.m.setup; steps = take l.step-index l.steps };
  lines : Adds (TellsLines g.m.setup l.steps l.step-index) l.fn.out.items l.out.items;
}
