use Rattle.std.proofs.Common.{sym, ◌∙◌}
use Rattle.cell_machine.proofs.Controllers.{retire-off, retire-on, retire-facts}
use Rattle.cell_machine.proofs.processor.Processor.retire.Goals as goal

pub returns-then-not-may_retire-clause-made : goal.returns-then-not-may_retire-clause-made
returns-then-not-may_retire-clause-made c = λ P shows. retire-off P c.args.cmd (sym (c.may_retire.ensures.may P shows) ∙ c.if-not-may_retire.true)

pub returns-clause-made : goal.returns-clause-made
returns-clause-made c = λ P shows.
    let may = sym (c.may_retire.ensures.may P shows) ∙ c.if-not-may_retire.false in
    let f = retire-facts P c.args.cmd may in
    rw (retire-on P c.args.cmd may) (record {
      status = shows.status;
      pc = shows.pc;
      registers = shows.registers;
      store = shows.store;
      inbound = shows.inbound;
      outbound = shows.outbound;
      interrupt = shows.interrupt;
      channels = shows.channels;
      tags = shows.tags;
      signals = shows.signals;
      events = shows.events;
      queue = c.retire.ensures P.moves f.0 shows.queue f.1 f.2;
    })
