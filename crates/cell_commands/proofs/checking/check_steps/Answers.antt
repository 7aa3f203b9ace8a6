use Rattle.std.proofs.Common.{ap}
use Rattle.cell_machine.specs.Run.{Ran}
use Rattle.cell_commands.proofs.Checks.{stopped, stopped_input, ends_there, begins_there}
use Rattle.cell_commands.proofs.checking.check_steps.Goals as goal

pub returns-in-Err-clause-input : goal.returns-in-Err-clause-input
returns-in-Err-clause-input c = stopped_input c.args.setup.now c.steps.result.now c.in-Err.fault c.in-Err.ensures.refused

pub returns-in-Err-clause-refused : goal.returns-in-Err-clause-refused
returns-in-Err-clause-refused c = stopped c.args.setup.now c.args.text.now c.args.record.now c.steps.result.now c.in-Err.fault c.requires.found c.steps.ensures c.in-Err.ensures.refused

pub check_states-requires-clause-end : goal.check_states-requires-clause-end
check_states-requires-clause-end c =
    ends_there c.args.setup.now c.args.text.now c.args.record.now c.requires.found c.steps.result.now c.steps.ensures c.in-Ok.judged.machine c.in-Ok.ensures.run.1 c.end.result c.end.ensures

pub check_states-requires-clause-begins : goal.check_states-requires-clause-begins
check_states-requires-clause-begins c =
    begins_there c.args.setup.now c.args.text.now c.args.record.now c.requires.found c.steps.result.now c.steps.ensures c.in-Ok.judged.machine c.in-Ok.ensures.run.1 c.end.result c.end.ensures c.in-Ok.ensures.run.0

pub returns-in-Ok-check_states-clause-run : goal.returns-in-Ok-check_states-clause-run
returns-in-Ok-check_states-clause-run c = (ap (λ (m : Ran). m.setup) c.in-Ok.ensures.run.1, c.in-Ok-check_states.ensures.run)
