use Rattle.cell_commands.specs.Task.{verdict_of}
use Rattle.cell_commands.specs.Forms.{check_task}
use Rattle.cell_commands.proofs.Steps.{answer_after, answer_refused}
use Rattle.cell_commands.proofs.check.check.Goals as goal

pub returns-in-Ok-clause-answer : goal.returns-in-Ok-clause-answer
returns-in-Ok-clause-answer g c = λ told is.
    answer_after told (check_task c.args.machine.now c.args.record_file.now) (verdict_of c.in-Ok.judged.machine) _ _ _ _ c.put_verdict.result (c.in-Ok.ensures.comes told is verdict_of) c.put_verdict.ensures.ends

pub returns-in-Err-clause-answer : goal.returns-in-Err-clause-answer
returns-in-Err-clause-answer g c = λ told is. answer_refused told (check_task c.args.machine.now c.args.record_file.now) _ _ _ _ c.in-Err.fault c.in-Err.ensures.input (c.in-Err.ensures.comes told is verdict_of)
