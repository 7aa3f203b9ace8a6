use Rattle.std.proofs.Common.{arith}
use Rattle.cell_base.specs.declared.steps.Actor.TheVariants.{Spu}
use Rattle.cell_machine.proofs.Choices.{spu-on, spu-found, none-left, none-before}
use Rattle.cell_machine.proofs.choosing.first_of_spus.Goals as goal

pub loop-spe-init : goal.loop-spe-init
loop-spe-init c = λ memory host M shows. none-before M Spu _

pub returns-then-may_exec : goal.returns-then-may_exec
returns-then-may_exec c = λ memory host M shows. spu-found _ M c.loop-spe.spe _ _ shows (omega arith) c.index-processors-spe.is c.may_exec.ensures c.if-may_exec.true (c.loop-spe.invariant memory host M shows)

pub loop-spe-preserved : goal.loop-spe-preserved
loop-spe-preserved c = λ memory host M shows. spu-on _ M c.loop-spe.spe _ _ shows (omega arith) c.index-processors-spe.is c.may_exec.ensures c.if-may_exec.false (c.loop-spe.invariant memory host M shows)

pub returns : goal.returns
returns c = λ memory host M shows. none-left _ M Spu c.loop-spe.spe _ shows (omega arith) (c.loop-spe.invariant memory host M shows)
