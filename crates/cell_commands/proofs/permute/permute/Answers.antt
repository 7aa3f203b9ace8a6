use Rattle.cell_commands.specs.Task.{reordering_of}
use Rattle.cell_commands.specs.Forms.{permute_task}
use Rattle.cell_commands.proofs.Steps.{answer_after, answer_refused}
use Rattle.cell_commands.proofs.permute.permute.Goals as goal

pub returns-in-Ok-clause-answer : goal.returns-in-Ok-clause-answer
returns-in-Ok-clause-answer g c = λ told is.
    answer_after told (permute_task c.args.machine.now c.args.record_file.now c.args.n) (reordering_of c.in-Ok.judged.machine c.args.n) _ _ _ _ c.write_reordering.result (c.in-Ok.ensures.comes told is (λ m. reordering_of m c.args.n))
    c.write_reordering.ensures.ends

pub returns-in-Err-clause-answer : goal.returns-in-Err-clause-answer
returns-in-Err-clause-answer g c = λ told is. answer_refused told (permute_task c.args.machine.now c.args.record_file.now c.args.n) _ _ _ _ c.in-Err.fault c.in-Err.ensures.input (c.in-Err.ensures.comes told is (λ m. reordering_of m c.args.n))
