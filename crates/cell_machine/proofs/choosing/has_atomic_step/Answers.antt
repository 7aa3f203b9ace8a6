use Rattle.std.proofs.Common.{arith}
use Rattle.cell_machine.proofs.Choices.{atomic-no_spe, atomic-says}
use Rattle.cell_machine.proofs.choosing.has_atomic_step.Goals as goal

pub returns-then-spe-processors : goal.returns-then-spe-processors
returns-then-spe-processors c = λ memory host M shows. atomic-no_spe _ M c.args.spe shows (omega arith)

pub returns : goal.returns
returns c = λ memory host M shows. atomic-says _ M c.args.spe _ _ shows (omega arith) c.index-processors-spe.is c.may_atomic.ensures
