use Rattle.std.proofs.Common.{◌&&◌, ap₂, ◌∙◌, subst}
use Rattle.std.specs.Prelude.{not, if◌then◌else◌}
use Rattle.cell_machine.specs.Channels.{acknowledged}
use Rattle.cell_machine.specs.Raised.{with_raised}
use Rattle.cell_machine.specs.Shows.{ShowsSpe}
use Rattle.cell_machine.proofs.processor.Processor.acknowledge.Goals as goal

pub returns : goal.returns
unfolding acknowledged
returns c = λ P shows.
    let Q = acknowledged P c.args.tag in
    subst (λ b. ShowsSpe c.raise_if.new.self (with_raised Q (if b then 0x8 else 0)))
    (c.ceases.ensures ∙ ap₂ (λ a b. a && not b) (c.is_queue_full-was_full.ensures P shows) (c.is_queue_full-is_full.ensures Q (record {
      status = shows.status;
      pc = shows.pc;
      registers = shows.registers;
      store = shows.store;
      inbound = shows.inbound;
      outbound = shows.outbound;
      interrupt = shows.interrupt;
      channels = shows.channels;
      tags = shows.tags;
      signals = shows.signals;
      events = shows.events;
      queue = c.acknowledge.ensures P.moves shows.queue;
    })))
    (c.raise_if.ensures Q (record {
      status = shows.status;
      pc = shows.pc;
      registers = shows.registers;
      store = shows.store;
      inbound = shows.inbound;
      outbound = shows.outbound;
      interrupt = shows.interrupt;
      channels = shows.channels;
      tags = shows.tags;
      signals = shows.signals;
      events = shows.events;
      queue = c.acknowledge.ensures P.moves shows.queue;
    }))
