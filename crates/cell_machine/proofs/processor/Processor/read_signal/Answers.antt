use Rattle.std.proofs.Common.{◌≡◌, ◌∙◌, ap, sym, subst}
use Rattle.cell_signals.specs.declared.signals.Signals.{Signals}
use Rattle.cell_signals.specs.Registers.{register_of, emptied}
use Rattle.cell_machine.specs.Shows.{ShowsSpe}
use Rattle.cell_machine.specs.Channels.{given}
use Rattle.cell_machine.proofs.processor.Processor.read_signal.Goals as goal

pub returns-clause-made : goal.returns-clause-made
returns-clause-made c = λ P shows.
    let was = ap (λ (s : Signals). (register_of s c.args.register).ready) shows.signals in
    let took = c.in-Ok.ensures.ok in
    let Q = record P { signals = emptied P.signals c.args.register } in
    let value : c.in-Ok.value ≡ (register_of P.signals c.args.register).value = took.0 ∙ ap (λ (s : Signals). (register_of s c.args.register).value) (sym shows.signals) in (
      was ∙ sym c.ready.ensures ∙ c.if-not-ready.false,
      subst (λ v. ShowsSpe c.give.new.self (given Q c.args.rt v)) value
          (c.give.ensures Q (record { status = shows.status; pc = shows.pc; registers = shows.registers; store = shows.store; inbound = shows.inbound; outbound = shows.outbound; interrupt = shows.interrupt; channels = shows.channels; tags = shows.tags; signals = ap (λ (s : Signals). emptied s c.args.register) shows.signals ∙ sym took.1; events = shows.events; queue = shows.queue })),
    )
