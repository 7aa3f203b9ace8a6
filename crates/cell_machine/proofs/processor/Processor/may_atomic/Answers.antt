use Rattle.std.proofs.Common.{ap, sym, ◌∙◌, not}
use Rattle.std.specs.Prelude.{is_some}
use Rattle.cell_channels.specs.declared.channels.Channels.{Channels}
use Rattle.cell_machine.specs.Spe.{is_faulted}
use Rattle.cell_machine.proofs.AtomicSteps.{may-atomic_faulted, may-atomic_sound}
use Rattle.cell_machine.proofs.processor.Processor.may_atomic.Goals as goal

pub returns-then-not-is_faulted : goal.returns-then-not-is_faulted
returns-then-not-is_faulted c = λ P shows.
    c.is_some.ensures ∙ ap is_some (c.slot.ensures ∙ sym (ap (λ (k : Channels). k.slot) shows.channels))
    ∙ sym (may-atomic_sound P (ap is_faulted shows.status ∙ sym c.is_faulted.ensures ∙ c.if-not-is_faulted.true))

pub returns-else-not-is_faulted : goal.returns-else-not-is_faulted
returns-else-not-is_faulted c = λ P shows. ap not c.if-not-is_faulted.false ∙ sym (may-atomic_faulted P (ap is_faulted shows.status ∙ sym c.is_faulted.ensures ∙ c.if-not-is_faulted.false))
