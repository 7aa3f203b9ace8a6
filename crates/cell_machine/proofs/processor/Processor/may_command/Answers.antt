use Rattle.std.proofs.Common.{◌-◌, length, sym, ap, ◌∙◌, rules}
use Rattle.std.specs.Prelude.{is_none}
use Rattle.cell_channels.specs.declared.channels.Channels.{Channels}
use Rattle.cell_machine.proofs.SpeShown.{outstanding-same}
use Rattle.cell_machine.proofs.ChannelSteps.{command-line, command-queue}
use Rattle.cell_machine.proofs.processor.Processor.may_command.Goals as goal

pub returns-then-is_atomic-clause-may : goal.returns-then-is_atomic-clause-may
returns-then-is_atomic-clause-may c = λ P shows.
    search rules ∙ ap is_none (c.slot.ensures ∙ sym (ap (λ (k : Channels). k.slot) shows.channels)) ∙ sym (command-line P c.args.op (sym c.is_atomic.ensures ∙ c.if-is_atomic.true))

pub returns-else-is_atomic-clause-may : goal.returns-else-is_atomic-clause-may
returns-else-is_atomic-clause-may c = λ P shows.
    let q = shows.queue in
    sym (command-queue P c.args.op c.free.result (sym c.is_atomic.ensures ∙ c.if-is_atomic.false)
    (c.free.ensures q.calls q.stands ∙ ap (λ xs. 16 - length xs) (outstanding-same q.calls P q.moves)))
