use Rattle.std.proofs.Common.{ap, sym, ◌∙◌}
use Rattle.std.specs.Prelude.{Ok, Some}
use Rattle.mfc_command.specs.declared.command.Order.TheVariants.{Queued, Atomic}
use Rattle.mfc_command.specs.Check.{checked}
use Rattle.mfc_command.proofs.CheckLemmas.{checked-slot}
use Rattle.cell_channels.specs.declared.channels.Channels.{Channels}
use Rattle.cell_machine.specs.Channels.{with_issued}
use Rattle.cell_machine.proofs.ChannelSteps.{commanded-queued, commanded-line, commanded-fault}
use Rattle.cell_machine.proofs.processor.Processor.command.Goals as goal

pub issue-requires-clause-free : goal.issue-requires-clause-free
issue-requires-clause-free c = c.requires.free (checked-slot c.params.result c.args.op c.args.lines (Queued c.in-Ok-Queued.command) (sym c.check.ensures.checked ∙ c.in-Ok-Queued.is ∙ ap Ok c.in-Ok-Queued.field-0-is))

pub fill_slot-requires : goal.fill_slot-requires
fill_slot-requires c = c.requires.slot (checked-slot c.params.result c.args.op c.args.lines (Atomic c.in-Ok-Atomic.a) (sym c.check.ensures.checked ∙ c.in-Ok-Atomic.is ∙ ap Ok c.in-Ok-Atomic.field-0-is))

pub returns-in-Ok-Queued : goal.returns-in-Ok-Queued
returns-in-Ok-Queued c = λ P shows.
    rw (commanded-queued c.args.lines P c.args.op c.in-Ok-Queued.command
    (ap (λ p. checked p c.args.op c.args.lines) (ap (λ (s : Channels). s.params) shows.channels ∙ sym c.params.ensures) ∙ sym c.check.ensures.checked ∙ c.in-Ok-Queued.is ∙ ap Ok c.in-Ok-Queued.field-0-is))
    (c.go_on.ensures (record P { moves = with_issued P.moves c.in-Ok-Queued.command }) (record {
      status = shows.status;
      pc = shows.pc;
      registers = shows.registers;
      store = shows.store;
      inbound = shows.inbound;
      outbound = shows.outbound;
      interrupt = shows.interrupt;
      channels = shows.channels;
      tags = shows.tags;
      signals = shows.signals;
      events = shows.events;
      queue = c.issue.ensures P.moves shows.queue;
    }))

pub returns-in-Ok-Atomic : goal.returns-in-Ok-Atomic
returns-in-Ok-Atomic c = λ P shows.
    rw (commanded-line c.args.lines P c.args.op c.in-Ok-Atomic.a
    (ap (λ p. checked p c.args.op c.args.lines) (ap (λ (s : Channels). s.params) shows.channels ∙ sym c.params.ensures) ∙ sym c.check.ensures.checked ∙ c.in-Ok-Atomic.is ∙ ap Ok c.in-Ok-Atomic.field-0-is))
    (c.go_on-in-Ok-Atomic.ensures (record P { channels = record P.channels { slot = Some c.in-Ok-Atomic.a } }) (c.fill_slot.ensures P shows))

pub returns-in-Err : goal.returns-in-Err
returns-in-Err c = λ P shows.
    rw (commanded-fault c.args.lines P c.args.op c.in-Err.kind
    (ap (λ p. checked p c.args.op c.args.lines) (ap (λ (s : Channels). s.params) shows.channels ∙ sym c.params.ensures) ∙ sym c.check.ensures.checked ∙ c.in-Err.is))
    (c.refuse.ensures P shows)
