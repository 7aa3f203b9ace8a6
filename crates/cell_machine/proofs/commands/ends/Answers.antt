use Rattle.cell_machine.proofs.commands.ends.Goals as goal

pub returns : goal.returns
returns c = λ r x stands now. c.complete.ensures _ (c.finish.ensures.finished r x stands now)
