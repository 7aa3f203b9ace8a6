use Rattle.std.proofs.Common.{sym, ◌∙◌, ap}
use Rattle.std.specs.Prelude.{not}
use Rattle.cell_machine.specs.Spe.{is_faulted}
use Rattle.cell_machine.proofs.Controllers.{retire-may, retire-faulted}
use Rattle.cell_machine.proofs.processor.Processor.may_retire.Goals as goal

pub returns-then-not-is_faulted-clause-may : goal.returns-then-not-is_faulted-clause-may
returns-then-not-is_faulted-clause-may c = λ P shows.
    c.may_retire.ensures.may P.moves shows.queue ∙ sym (retire-may P c.args.cmd (ap is_faulted shows.status ∙ sym c.is_faulted.ensures ∙ c.if-not-is_faulted.true))

pub returns-else-not-is_faulted-clause-may : goal.returns-else-not-is_faulted-clause-may
returns-else-not-is_faulted-clause-may c = λ P shows.
    ap not c.if-not-is_faulted.false ∙ sym (retire-faulted P c.args.cmd (ap is_faulted shows.status ∙ sym c.is_faulted.ensures ∙ c.if-not-is_faulted.false))
