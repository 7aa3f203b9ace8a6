use Rattle.std.proofs.Common.{ap, sym, ◌∙◌}
use Rattle.cell_signals.specs.declared.events.Events.{Events}
use Rattle.cell_signals.specs.Events.{raised}
use Rattle.cell_machine.proofs.processor.Processor.lose.Goals as goal

pub returns : goal.returns
returns c = λ P shows. record {
  status = shows.status;
  pc = shows.pc;
  registers = shows.registers;
  store = shows.store;
  inbound = shows.inbound;
  outbound = shows.outbound;
  interrupt = shows.interrupt;
  channels = shows.channels;
  tags = shows.tags;
  signals = shows.signals;
  events = ap (λ (e : Events). raised e 0x400) shows.events ∙ sym c.raise.ensures;
  queue = shows.queue;
}
