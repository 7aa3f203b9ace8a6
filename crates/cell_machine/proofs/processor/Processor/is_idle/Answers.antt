use Rattle.std.proofs.Common.{rules}
use Rattle.cell_machine.proofs.Places.{mfc-idle}
use Rattle.cell_machine.proofs.processor.Processor.is_idle.Goals as goal

pub returns : goal.returns
returns c = search (rules, mfc-idle)
