use Rattle.cell_commands.specs.Task.{text_of}
use Rattle.cell_commands.specs.Forms.{debug_task}
use Rattle.cell_commands.proofs.Steps.{answer_after}
use Rattle.cell_commands.proofs.debug.debug.Goals as goal

pub returns-in-Ok-clause-answer : goal.returns-in-Ok-clause-answer
returns-in-Ok-clause-answer g c = λ told is.
    answer_after told (debug_task c.args.machine.now c.args.script.now) (text_of c.in-Ok.text.items) _ _ _ _ c.write_text.result (c.in-Ok.ensures.comes told is) (rw c.as_slice.ensures.value at c.write_text.ensures.ends)
