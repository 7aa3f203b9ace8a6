use Rattle.std.proofs.Common.{[], ◌∷◌, sym, ◌∙◌}
use Rattle.cell_machine.proofs.ChannelSteps.{put-first}
use Rattle.cell_machine.proofs.processor.Processor.put_outbound.Goals as goal

pub returns-clause-made : goal.returns-clause-made
returns-clause-made c = λ P shows.
    let first = put-first c.put.result c.args.self.now.outbound c.put.new.self c.args.value (sym c.is_err.ensures.value ∙ c.if-is_err.false) c.put.ensures.variant c.put.ensures.ok in (
      shows.outbound ∙ first.0,
      c.go_on.ensures (record P { outbound = c.args.value ∷ [] }) (record {
        status = shows.status;
        pc = shows.pc;
        registers = shows.registers;
        store = shows.store;
        inbound = shows.inbound;
        outbound = sym first.1;
        interrupt = shows.interrupt;
        channels = shows.channels;
        tags = shows.tags;
        signals = shows.signals;
        events = shows.events;
        queue = shows.queue;
      }),
    )
