use Rattle.std.proofs.Common.{◌≡◌, ◌≢◌, length, sym, ap, ◌∙◌, arith}
use Rattle.std.specs.Prelude.{nat_lt}
use Rattle.cell_machine.proofs.ChannelSteps.{command-ready, outbound-ready, interrupt-ready, write-always}
use Rattle.cell_machine.proofs.processor.Processor.may_write.Goals as goal

pub returns-in-21 : goal.returns-in-21
returns-in-21 c = λ lines P shows. rw c.in-21.is (c.may_command.ensures.may P shows ∙ sym (command-ready lines P c.args.value))

pub returns-in-28 : goal.returns-in-28
returns-in-28 c = λ lines P shows.
    let same : c.len.result ≡ length P.outbound = c.len.ensures.count ∙ ap length (sym shows.outbound) in
    let fits = c.len.ensures.fits in
    rw c.in-28.is (ap (λ n. nat_lt n 1) same ∙ sym (outbound-ready lines P c.args.value (omega arith)))

pub returns-in-30 : goal.returns-in-30
returns-in-30 c = λ lines P shows.
    let same : c.len-in-30.result ≡ length P.interrupt = c.len-in-30.ensures.count ∙ ap length (sym shows.interrupt) in
    let fits = c.len-in-30.ensures.fits in
    rw c.in-30.is (ap (λ n. nat_lt n 1) same ∙ sym (interrupt-ready lines P c.args.value (omega arith)))

pub returns-in_default : goal.returns-in_default
returns-in_default c = λ lines P shows.
    let a : c.args.ch ≢ 21 = omega arith in
    let b : c.args.ch ≢ 28 = omega arith in
    let d : c.args.ch ≢ 30 = omega arith in
    sym (write-always lines P c.args.ch c.args.value a b d)
