use Rattle.std.proofs.Common.{◌∙◌, sym, ap, true≢false}
use Rattle.std.specs.Prelude.{is_some, is_ok, None}
use Rattle.cell_channels.specs.declared.channels.Channels.{Channels}
use Rattle.cell_machine.proofs.ChannelSteps.{atomic-off}
use Rattle.cell_machine.proofs.processor.Processor.read_atomic.Goals as goal

pub returns-then-not-has_atomic-clause-made : goal.returns-then-not-has_atomic-clause-made
returns-then-not-has_atomic-clause-made c = λ P shows. atomic-off P c.args.rt P.channels.atomic (ap (λ (k : Channels). is_some k.atomic) shows.channels ∙ sym c.has_atomic.ensures ∙ c.if-not-has_atomic.true)

pub unreachable-requires : goal.unreachable-requires
unreachable-requires c = true≢false (sym c.if-not-has_atomic.false ∙ c.has_atomic.ensures ∙ sym c.read_atomic.ensures.ready ∙ ap is_ok c.in-Err.is)

pub returns-clause-made : goal.returns-clause-made
returns-clause-made c = λ P shows.
    let status = rw c.in-Ok.is at c.read_atomic.ensures.ok in
    rw (ap (λ (k : Channels). k.atomic) shows.channels ∙ status)
    (c.give.ensures (record P { channels = record P.channels { atomic = None } }) (record {
      status = shows.status;
      pc = shows.pc;
      registers = shows.registers;
      store = shows.store;
      inbound = shows.inbound;
      outbound = shows.outbound;
      interrupt = shows.interrupt;
      channels = ap (λ (k : Channels). record k { atomic = None }) shows.channels ∙ sym c.read_atomic.ensures.taken;
      tags = shows.tags;
      signals = shows.signals;
      events = shows.events;
      queue = shows.queue;
    }))
