use Rattle.std.proofs.Common.{◌≢◌, true, arith, ap, sym, ◌∙◌}
use Rattle.tag_groups.specs.declared.Tags.{Tags}
use Rattle.tag_groups.specs.Settle.{requested}
use Rattle.cell_base.specs.declared.steps.ChannelOp.TheVariants.{Write}
use Rattle.cell_signals.specs.declared.events.Events.{Events}
use Rattle.cell_signals.specs.Events.{cleared}
use Rattle.cell_machine.specs.Channels.{channel, acknowledged}
use Rattle.cell_machine.specs.OwnEvents.{with_freed}
use Rattle.cell_machine.proofs.Freed.{kept-shows, write-kept}
use Rattle.cell_machine.proofs.ChannelSteps.{write-event_mask, write-event_ack, write-mask, write-request, write-ack, write-outbound, write-interrupt}
use Rattle.cell_machine.proofs.processor.Processor.write_channel.Goals as goal

pub returns-in-1-clause-made : goal.returns-in-1-clause-made
returns-in-1-clause-made c = λ P shows. rw c.in-1.is (kept-shows c.go_on.new.self P (channel c.args.lines P (Write 1 c.args.value)) true (write-kept c.args.lines P 1 c.args.value (omega arith))
    (rw (write-event_mask c.args.lines P c.args.value)
    (c.go_on.ensures (record P { events = record P.events { mask = c.args.value } }) (record { status = shows.status; pc = shows.pc; registers = shows.registers; store = shows.store; inbound = shows.inbound; outbound = shows.outbound; interrupt = shows.interrupt; channels = shows.channels; tags = shows.tags; signals = shows.signals; events = ap (λ (e : Events). record e { mask = c.args.value }) shows.events ∙ sym c.set_mask.ensures; queue = shows.queue }))))

pub returns-in-2-clause-made : goal.returns-in-2-clause-made
returns-in-2-clause-made c = λ P shows. rw c.in-2.is (kept-shows c.go_on-in-2.new.self P (channel c.args.lines P (Write 2 c.args.value)) true (write-kept c.args.lines P 2 c.args.value (omega arith))
    (rw (write-event_ack c.args.lines P c.args.value)
    (c.go_on-in-2.ensures (record P { events = cleared P.events c.args.value }) (record { status = shows.status; pc = shows.pc; registers = shows.registers; store = shows.store; inbound = shows.inbound; outbound = shows.outbound; interrupt = shows.interrupt; channels = shows.channels; tags = shows.tags; signals = shows.signals; events = ap (λ (e : Events). cleared e c.args.value) shows.events ∙ sym c.acknowledge.ensures; queue = shows.queue }))))

pub returns-in-21-clause-made : goal.returns-in-21-clause-made
returns-in-21-clause-made c = λ P shows. rw c.in-21.is (kept-shows c.write_command.new.self P (channel c.args.lines P (Write 21 c.args.value)) c.write_command.result (write-kept c.args.lines P 21 c.args.value (omega arith)) (c.write_command.ensures.made P shows))

pub returns-in-22-clause-made : goal.returns-in-22-clause-made
returns-in-22-clause-made c = λ P shows. rw c.in-22.is (kept-shows c.go_on-in-22.new.self P (channel c.args.lines P (Write 22 c.args.value)) true (write-kept c.args.lines P 22 c.args.value (omega arith))
    (rw (write-mask c.args.lines P c.args.value)
    (c.go_on-in-22.ensures (record P { tags = record P.tags { mask = c.args.value } }) (record { status = shows.status; pc = shows.pc; registers = shows.registers; store = shows.store; inbound = shows.inbound; outbound = shows.outbound; interrupt = shows.interrupt; channels = shows.channels; tags = ap (λ (t : Tags). record t { mask = c.args.value }) shows.tags ∙ sym c.set_mask-in-22.ensures; signals = shows.signals; events = shows.events; queue = shows.queue }))))

pub returns-in-23-clause-made : goal.returns-in-23-clause-made
returns-in-23-clause-made c = λ P shows. rw c.in-23.is (kept-shows c.go_on-in-23.new.self P (channel c.args.lines P (Write 23 c.args.value)) true (write-kept c.args.lines P 23 c.args.value (omega arith))
    (rw (write-request c.args.lines P c.args.value)
    (c.go_on-in-23.ensures (record P { tags = requested P.tags c.args.value }) (record { status = shows.status; pc = shows.pc; registers = shows.registers; store = shows.store; inbound = shows.inbound; outbound = shows.outbound; interrupt = shows.interrupt; channels = shows.channels; tags = ap (λ (t : Tags). requested t c.args.value) shows.tags ∙ sym c.request.ensures; signals = shows.signals; events = shows.events; queue = shows.queue }))))

pub returns-in-26-clause-made : goal.returns-in-26-clause-made
returns-in-26-clause-made c = λ P shows. rw (c.in-26.is, write-ack c.args.lines P c.args.value) (c.go_on-in-26.ensures (with_freed P (acknowledged P c.args.value)) (c.acknowledge-in-26.ensures P shows))

pub returns-in-28-clause-made : goal.returns-in-28-clause-made
returns-in-28-clause-made c = λ P shows. rw c.in-28.is (kept-shows _ P (channel c.args.lines P (Write 28 c.args.value)) _ (write-kept c.args.lines P 28 c.args.value (omega arith)) (write-outbound c.args.lines _ P _ _ (c.put_outbound.ensures.made P shows)))

pub returns-in-30-clause-made : goal.returns-in-30-clause-made
returns-in-30-clause-made c = λ P shows. rw c.in-30.is (kept-shows _ P (channel c.args.lines P (Write 30 c.args.value)) _ (write-kept c.args.lines P 30 c.args.value (omega arith)) (write-interrupt c.args.lines _ P _ _ (c.put_interrupt.ensures.made P shows)))

pub returns-in_default-clause-made : goal.returns-in_default-clause-made
returns-in_default-clause-made c = λ P shows.
    let other : c.args.ch ≢ 26 = omega arith in
    kept-shows c.write_param.new.self P (channel c.args.lines P (Write c.args.ch c.args.value)) true (write-kept c.args.lines P c.args.ch c.args.value other) (c.write_param.ensures c.args.lines P shows)
