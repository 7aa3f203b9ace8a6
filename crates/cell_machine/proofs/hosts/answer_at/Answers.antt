use Rattle.std.proofs.Common.{arith}
use Rattle.cell_machine.proofs.HostSteps.{leaves-at, leaves-absent}
use Rattle.cell_machine.proofs.hosts.answer_at.Goals as goal

pub returns-then-spe-processors-clause-made : goal.returns-then-spe-processors-clause-made
returns-then-spe-processors-clause-made c = λ memory host M shows all. leaves-absent _ memory host M c.args.spe _ shows (omega arith)

pub returns-clause-made : goal.returns-clause-made
returns-clause-made c = λ memory host M shows all. leaves-at _ memory host M c.args.spe _ _ _ _ shows all c.requires.many (omega arith) c.answer.ensures.made
