use Rattle.std.proofs.Common.{refl}
use Rattle.cell_machine.proofs.HostGives.{signal-gives}
use Rattle.cell_machine.proofs.processor.Processor.receive_signal.Goals as goal

pub returns-clause-made : goal.returns-clause-made
returns-clause-made c = λ P shows still. signal-gives P c.args.register c.args.value _ _ still c.requires refl (c.deliver.ensures P shows)
