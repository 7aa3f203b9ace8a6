use Rattle.std.proofs.Common.{ap, sym, ◌∙◌, subst}
use Rattle.cell_signals.specs.declared.events.Events.{Events}
use Rattle.cell_signals.specs.Events.{raised}
use Rattle.cell_machine.specs.Shows.{ShowsSpe}
use Rattle.cell_machine.proofs.Raising.{raised-none}
use Rattle.cell_machine.proofs.processor.Processor.raise_if.Goals as goal

pub returns-then-happened : goal.returns-then-happened
returns-then-happened c = λ P shows. rw c.if-happened.true (record {
  status = shows.status;
  pc = shows.pc;
  registers = shows.registers;
  store = shows.store;
  inbound = shows.inbound;
  outbound = shows.outbound;
  interrupt = shows.interrupt;
  channels = shows.channels;
  tags = shows.tags;
  signals = shows.signals;
  events = ap (λ (e : Events). raised e c.args.event) shows.events ∙ sym c.raise.ensures;
  queue = shows.queue;
})

pub returns-else-happened : goal.returns-else-happened
returns-else-happened c = λ P shows. rw c.if-happened.false (subst (ShowsSpe c.args.self.now) (sym (raised-none P)) shows)
