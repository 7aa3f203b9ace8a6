use Rattle.std.proofs.Common.{ap, sym, ◌∙◌, slice_set}
use Rattle.cell_base.specs.Lanes.{in_first_word}
use Rattle.cell_machine.proofs.processor.Processor.give.Goals as goal

pub returns : goal.returns
returns c = λ P shows.
    c.go_on.ensures (record P { registers = slice_set P.registers c.args.rt (in_first_word c.args.value) }) (record {
      status = shows.status;
      pc = shows.pc;
      registers = ap (λ xs. slice_set xs c.args.rt (in_first_word c.args.value)) shows.registers ∙ ap (slice_set c.args.self.now.registers c.args.rt) (sym c.in_first_word.ensures) ∙ sym c.set.ensures;
      store = shows.store;
      inbound = shows.inbound;
      outbound = shows.outbound;
      interrupt = shows.interrupt;
      channels = shows.channels;
      tags = shows.tags;
      signals = shows.signals;
      events = shows.events;
      queue = shows.queue;
    })
