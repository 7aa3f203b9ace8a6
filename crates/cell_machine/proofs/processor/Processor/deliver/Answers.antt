use Rattle.std.proofs.Common.{◌≡◌, ap, sym, ◌∙◌, subst}
use Rattle.std.specs.Prelude.{not, if◌then◌else◌}
use Rattle.cell_signals.specs.declared.signals.Signals.{Signals}
use Rattle.cell_signals.specs.Registers.{register_of, delivered}
use Rattle.cell_machine.specs.Signals.{with_signal}
use Rattle.cell_machine.specs.Raised.{with_raised}
use Rattle.cell_machine.specs.Shows.{ShowsSpe, event_of}
use Rattle.cell_machine.proofs.processor.Processor.deliver.Goals as goal

pub returns : goal.returns
returns c = λ P shows.
    let Q = with_signal P c.args.register c.args.value in
    let first : not c.ready-is_first.result ≡ not (register_of P.signals c.args.register).ready = ap not (c.ready-is_first.ensures ∙ ap (λ (s : Signals). (register_of s c.args.register).ready) (sym shows.signals)) in
    subst (λ b. ShowsSpe c.raise_if.new.self (with_raised Q (if b then event_of c.args.register else 0))) first
    (subst (λ e. ShowsSpe c.raise_if.new.self (with_raised Q (if not c.ready-is_first.result then e else 0))) c.signal_event.ensures (c.raise_if.ensures Q (record {
      status = shows.status;
      pc = shows.pc;
      registers = shows.registers;
      store = shows.store;
      inbound = shows.inbound;
      outbound = shows.outbound;
      interrupt = shows.interrupt;
      channels = shows.channels;
      tags = shows.tags;
      signals = ap (λ (s : Signals). delivered s c.args.register c.args.value) shows.signals ∙ sym c.deliver.ensures;
      events = shows.events;
      queue = shows.queue;
    })))
