use Rattle.std.proofs.Common.{sym, refl, ◌∙◌}
use Rattle.cell_machine.proofs.Choices.{first-mfc, first-host}
use Rattle.cell_machine.proofs.choosing.first_of_others.Goals as goal

pub returns-then-is_some : goal.returns-then-is_some
returns-then-is_some c = λ memory M shows none. first-mfc M _ _ (sym none) refl (c.first_of_mfcs-of_mfcs.ensures memory _ M shows) (sym c.is_some.ensures ∙ c.if-is_some.true)

pub returns : goal.returns
returns c = λ memory M shows none. first-host M _ _ _ (sym none) refl (c.first_of_mfcs-of_mfcs.ensures memory _ M shows) (sym c.is_some.ensures ∙ c.if-is_some.false) (c.first_of_host.ensures memory M shows)
