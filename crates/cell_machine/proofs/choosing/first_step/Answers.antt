use Rattle.std.proofs.Common.{sym, ◌∙◌}
use Rattle.cell_machine.proofs.AllTwo.{none_of}
use Rattle.cell_machine.proofs.Choices.{first-spu}
use Rattle.cell_machine.proofs.choosing.first_step.Goals as goal

pub returns-then-is_some : goal.returns-then-is_some
returns-then-is_some c = λ memory M shows. first-spu M _ (c.first_of_spus-of_spus.ensures memory _ M shows) (sym c.is_some.ensures ∙ c.if-is_some.true)

pub returns : goal.returns
returns c = λ memory M shows. c.first_of_others.ensures memory M shows (sym (c.first_of_spus-of_spus.ensures memory _ M shows) ∙ none_of _ (sym c.is_some.ensures ∙ c.if-is_some.false))
