use Rattle.cell_machine.proofs.processor.Processor.operation_tells.Goals as goal

pub returns-in-Count : goal.returns-in-Count
returns-in-Count c = λ P Q registers store shows on made. rw c.in-Count.is (c.count_tells.ensures c.args.lines c.args.spe P Q registers store c.in-Count.rt on (rw c.in-Count.is at made))
