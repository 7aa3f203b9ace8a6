use Rattle.std.proofs.Common.{ap, sym, refl, ◌∙◌}
use Rattle.cell_machine.specs.Spe.{is_running}
use Rattle.cell_machine.proofs.HostGives.{awaited-gives, awaited-none}
use Rattle.cell_machine.proofs.processor.Processor.let_go.Goals as goal

pub returns-then-is_running-clause-made : goal.returns-then-is_running-clause-made
returns-then-is_running-clause-made c = λ P shows still. awaited-none P _ (ap is_running shows.status ∙ sym c.is_running.ensures ∙ c.if-is_running.true)

pub returns-clause-made : goal.returns-clause-made
returns-clause-made c = λ P shows still. awaited-gives P _ _ still (ap is_running shows.status ∙ sym c.is_running.ensures ∙ c.if-is_running.false) refl shows
