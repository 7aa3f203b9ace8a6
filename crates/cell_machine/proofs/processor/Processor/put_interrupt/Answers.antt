use Rattle.std.proofs.Common.{[], ◌∷◌, sym, ◌∙◌}
use Rattle.cell_machine.proofs.ChannelSteps.{put-first}
use Rattle.cell_machine.proofs.processor.Processor.put_interrupt.Goals as goal

pub returns-clause-made : goal.returns-clause-made
returns-clause-made c = λ P shows.
    let first = put-first c.put.result c.args.self.now.interrupt c.put.new.self c.args.value (sym c.is_err.ensures.value ∙ c.if-is_err.false) c.put.ensures.variant c.put.ensures.ok in (
      shows.interrupt ∙ first.0,
      c.go_on.ensures (record P { interrupt = c.args.value ∷ [] }) (record {
        status = shows.status;
        pc = shows.pc;
        registers = shows.registers;
        store = shows.store;
        inbound = shows.inbound;
        outbound = shows.outbound;
        interrupt = sym first.1;
        channels = shows.channels;
        tags = shows.tags;
        signals = shows.signals;
        events = shows.events;
        queue = shows.queue;
      }),
    )
