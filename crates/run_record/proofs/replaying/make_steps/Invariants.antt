use Rattle.std.proofs.Common.{◌≡◌, ◌++◌, take}
use Rattle.cell_machine.specs.Run.{IsRun}
use Rattle.run_record.proofs.replaying.make_steps.Given as goal

-- the machine has made the steps so far, which are a run
abbrev pub invariant-loop-step : goal.invariant-loop-step
invariant-loop-step l =
    record {
      stands : l.machine ≡ record { setup = l.fn.machine.setup; steps = l.fn.machine.steps ++ take l.step-index l.steps };
      run : IsRun l.fn.machine.setup (l.fn.machine.steps ++ take l.step-index l.steps);
    }
