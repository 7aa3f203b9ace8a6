use Rattle.std.proofs.Common.{refl, sym, subst}
use Rattle.cell_machine.specs.declared.status.Status.TheVariants.{Stopped, Halted}
use Rattle.cell_machine.specs.Shows.{ShowsSpe}
use Rattle.cell_machine.proofs.Freed.{kept-same}
use Rattle.cell_machine.proofs.processor.Processor.follow.Goals as goal

pub returns-in-Next-clause-made : goal.returns-in-Next-clause-made
returns-in-Next-clause-made c = λ P shows. rw c.in-Next.is (subst (ShowsSpe _) (sym (kept-same P (record P { pc = c.in-Next.pc }) refl).is) (record {
  status = shows.status;
  pc = refl;
  registers = shows.registers;
  store = shows.store;
  inbound = shows.inbound;
  outbound = shows.outbound;
  interrupt = shows.interrupt;
  channels = shows.channels;
  tags = shows.tags;
  signals = shows.signals;
  events = shows.events;
  queue = shows.queue;
}))

pub returns-in-Stop-clause-made : goal.returns-in-Stop-clause-made
returns-in-Stop-clause-made c = λ P shows. rw c.in-Stop.is (subst (ShowsSpe _) (sym (kept-same P (record P { status = Stopped c.in-Stop.code; pc = c.in-Stop.next }) refl).is) (record {
  status = refl;
  pc = refl;
  registers = shows.registers;
  store = shows.store;
  inbound = shows.inbound;
  outbound = shows.outbound;
  interrupt = shows.interrupt;
  channels = shows.channels;
  tags = shows.tags;
  signals = shows.signals;
  events = shows.events;
  queue = shows.queue;
}))

pub returns-in-Halt-clause-made : goal.returns-in-Halt-clause-made
returns-in-Halt-clause-made c = λ P shows. rw c.in-Halt.is (subst (ShowsSpe _) (sym (kept-same P (record P { status = Halted; pc = c.in-Halt.next }) refl).is) (record {
  status = refl;
  pc = refl;
  registers = shows.registers;
  store = shows.store;
  inbound = shows.inbound;
  outbound = shows.outbound;
  interrupt = shows.interrupt;
  channels = shows.channels;
  tags = shows.tags;
  signals = shows.signals;
  events = shows.events;
  queue = shows.queue;
}))
