use Rattle.std.proofs.Common.{arith, sym, ◌∙◌}
use Rattle.cell_base.specs.declared.steps.Actor.TheVariants.{Mfc}
use Rattle.cell_machine.proofs.Choices.{mfc-on, mfc-found, none-left, none-before}
use Rattle.cell_machine.proofs.choosing.first_of_mfcs.Goals as goal

pub loop-spe-init : goal.loop-spe-init
loop-spe-init c = λ memory host M shows. none-before M Mfc _

pub returns-then-is_some : goal.returns-then-is_some
returns-then-is_some c = λ memory host M shows. mfc-found _ M c.loop-spe.spe _ _ shows (omega arith) c.index-processors-spe.is c.first_of_mfc-first.ensures (sym c.is_some.ensures ∙ c.if-is_some.true) (c.loop-spe.invariant memory host M shows)

pub loop-spe-preserved : goal.loop-spe-preserved
loop-spe-preserved c = λ memory host M shows. mfc-on _ M c.loop-spe.spe _ _ shows (omega arith) c.index-processors-spe.is c.first_of_mfc-first.ensures (sym c.is_some.ensures ∙ c.if-is_some.false) (c.loop-spe.invariant memory host M shows)

pub returns : goal.returns
returns c = λ memory host M shows. none-left _ M Mfc c.loop-spe.spe _ shows (omega arith) (c.loop-spe.invariant memory host M shows)

pub first_of_mfc-first-requires : goal.first_of_mfc-first-requires
first_of_mfc-first-requires c = rw c.index-processors-spe.is (c.requires.kept c.loop-spe.spe _ (omega arith))
