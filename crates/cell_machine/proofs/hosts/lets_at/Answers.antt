use Rattle.std.proofs.Common.{arith, sym}
use Rattle.cell_machine.proofs.HostSteps.{at-allowed, at-absent}
use Rattle.cell_machine.proofs.hosts.lets_at.Goals as goal

pub returns-then-spe-processors : goal.returns-then-spe-processors
returns-then-spe-processors c = λ memory host M shows. sym (at-absent _ memory host M c.args.spe _ shows (omega arith))

pub returns : goal.returns
returns c = λ memory host M shows. at-allowed _ memory host M c.args.spe _ _ _ shows (omega arith) c.index-processors-spe.is c.lets.ensures
