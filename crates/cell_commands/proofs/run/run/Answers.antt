use Rattle.cell_commands.specs.Task.{run_of}
use Rattle.cell_commands.specs.Forms.{run_task}
use Rattle.cell_commands.specs.Answer.{AtMachine}
use Rattle.cell_commands.proofs.Runs.{run_ends}
use Rattle.cell_commands.proofs.Steps.{answer_after, ended_quiet, ended_reads, ended_usage}
use Rattle.cell_commands.proofs.run.run.Goals as goal

pub returns-in-Ok-run_setup-clause-answer : goal.returns-in-Ok-run_setup-clause-answer
returns-in-Ok-run_setup-clause-answer g c = λ told is.
    answer_after told (run_task c.args.machine.now) (run_of c.in-Ok.setup) _ _ _ _ c.write_run.result (c.in-Ok.ensures.comes told is)
    (run_ends c.in-Ok.setup c.in-Ok-run_setup.machine _ _ c.write_run.result c.in-Ok-run_setup.ensures.setup c.in-Ok-run_setup.ensures.ended c.write_run.ensures.ends)

pub returns-in-Ok-run_setup-clause-read_fault : goal.returns-in-Ok-run_setup-clause-read_fault
returns-in-Ok-run_setup-clause-read_fault g c =
    ended_reads (AtMachine c.args.machine.now) (g.T.Store.ledger c.args.files.now) (g.T.Store.ledger c.prepare_run.new.files) (run_of c.in-Ok.setup) _ _ c.write_run.result
    (run_ends c.in-Ok.setup c.in-Ok-run_setup.machine _ _ c.write_run.result c.in-Ok-run_setup.ensures.setup c.in-Ok-run_setup.ensures.ended c.write_run.ensures.ends)

pub returns-in-Ok-run_setup-clause-quiet : goal.returns-in-Ok-run_setup-clause-quiet
returns-in-Ok-run_setup-clause-quiet g c =
    ended_quiet (run_of c.in-Ok.setup) _ _ c.write_run.result
    (run_ends c.in-Ok.setup c.in-Ok-run_setup.machine _ _ c.write_run.result c.in-Ok-run_setup.ensures.setup c.in-Ok-run_setup.ensures.ended c.write_run.ensures.ends)

pub returns-in-Ok-run_setup-clause-usage : goal.returns-in-Ok-run_setup-clause-usage
returns-in-Ok-run_setup-clause-usage g c =
    ended_usage (run_of c.in-Ok.setup) _ _ c.write_run.result
    (run_ends c.in-Ok.setup c.in-Ok-run_setup.machine _ _ c.write_run.result c.in-Ok-run_setup.ensures.setup c.in-Ok-run_setup.ensures.ended c.write_run.ensures.ends)
