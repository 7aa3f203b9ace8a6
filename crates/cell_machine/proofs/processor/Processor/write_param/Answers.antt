use Rattle.std.proofs.Common.{ap, refl, sym, ◌∙◌}
use Rattle.cell_channels.specs.State.{with_param}
use Rattle.cell_channels.specs.declared.channels.Channels.{Channels}
use Rattle.std.specs.Prelude.{nat_le, ◌&&◌, true}
use Rattle.std.proofs.lemmas.Bool.Decides.{nat_tests}
use Rattle.std.proofs.Common.{◌≡◌, ◌≤◌, arith}
use Rattle.cell_machine.specs.Channels.{parameterized}
use Rattle.cell_machine.proofs.ChannelSteps.{write-bad, write-param}
use Rattle.cell_machine.proofs.processor.Processor.write_param.Goals as goal

pub returns-then-not-is_param : goal.returns-then-not-is_param
returns-then-not-is_param c = λ lines P shows.
    let o = c.requires.other in
    rw (write-bad lines P c.args.ch c.args.value (sym c.is_param.ensures ∙ c.if-not-is_param.true) o.0 o.1 o.2 o.3 o.4 o.5 o.6 o.7) (record { status = refl; pc = shows.pc; registers = shows.registers; store = shows.store; inbound = shows.inbound; outbound = shows.outbound; interrupt = shows.interrupt; channels = shows.channels; tags = shows.tags; signals = shows.signals; events = shows.events; queue = shows.queue })

pub set_param-requires : goal.set_param-requires
set_param-requires c =
    let on : (nat_le 16 c.args.ch && nat_le c.args.ch 20) ≡ true = sym c.is_param.ensures ∙ c.if-not-is_param.false in
    let low : 16 ≤ c.args.ch = grind (arith, nat_tests) in
    let high : c.args.ch ≤ 20 = grind (arith, nat_tests) in
    (low, high)

pub returns : goal.returns
returns c = λ lines P shows.
    rw (write-param lines P c.args.ch c.args.value (sym c.is_param.ensures ∙ c.if-not-is_param.false))
    (c.go_on.ensures (parameterized P c.args.ch c.args.value) (record { status = shows.status; pc = shows.pc; registers = shows.registers; store = shows.store; inbound = shows.inbound; outbound = shows.outbound; interrupt = shows.interrupt; channels = ap (λ (s : Channels). record s { params = with_param s.params c.args.ch c.args.value }) shows.channels ∙ sym c.set_param.ensures; tags = shows.tags; signals = shows.signals; events = shows.events; queue = shows.queue }))
