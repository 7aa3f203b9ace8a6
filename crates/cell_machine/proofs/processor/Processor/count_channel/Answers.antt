use Rattle.std.proofs.Common.{◌≡◌, sym, ap, ◌∙◌, refl, subst}
use Rattle.std.specs.Prelude.{is_some}
use Rattle.cell_machine.specs.Channels.{given}
use Rattle.cell_machine.specs.Shows.{ShowsSpe}
use Rattle.cell_machine.proofs.ChannelSteps.{count-bad, count-given}
use Rattle.cell_machine.proofs.processor.Processor.count_channel.Goals as goal

pub returns-in-None : goal.returns-in-None
returns-in-None c = λ lines P shows. rw (count-bad lines P c.args.rt c.args.ch (ap is_some (sym c.way.ensures ∙ c.in-None.is)))
    (record { status = refl; pc = shows.pc; registers = shows.registers; store = shows.store; inbound = shows.inbound; outbound = shows.outbound; interrupt = shows.interrupt; channels = shows.channels; tags = shows.tags; signals = shows.signals; events = shows.events; queue = shows.queue })

pub returns-in-Some : goal.returns-in-Some
returns-in-Some c = λ lines P shows.
    let here : is_some _ ≡ _ = ap is_some (sym c.way.ensures ∙ c.in-Some.is) in
    rw (count-given lines P c.args.rt c.args.ch here) (subst (λ n. ShowsSpe c.give.new.self (given P c.args.rt n)) (c.count-value.ensures P shows here) (c.give.ensures P shows))
