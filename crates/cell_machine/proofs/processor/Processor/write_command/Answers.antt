use Rattle.std.proofs.Common.{sym, ◌∙◌}
use Rattle.cell_machine.proofs.ChannelSteps.{command-off, command-taken}
use Rattle.cell_machine.proofs.processor.Processor.write_command.Goals as goal

pub returns-then-not-may_command-clause-made : goal.returns-then-not-may_command-clause-made
returns-then-not-may_command-clause-made c = λ P shows.
    command-off c.args.lines P c.args.op
    (sym (c.may_command.ensures.may P (record { channels = shows.channels; tags = shows.tags; signals = shows.signals; events = shows.events; queue = shows.queue; inbound = shows.inbound; outbound = shows.outbound; interrupt = shows.interrupt })) ∙ c.if-not-may_command.true)

pub returns-clause-made : goal.returns-clause-made
returns-clause-made c = λ P shows.
    rw (command-taken c.args.lines P c.args.op
    (sym (c.may_command.ensures.may P (record { channels = shows.channels; tags = shows.tags; signals = shows.signals; events = shows.events; queue = shows.queue; inbound = shows.inbound; outbound = shows.outbound; interrupt = shows.interrupt })) ∙ c.if-not-may_command.false))
    (c.command.ensures P shows)
