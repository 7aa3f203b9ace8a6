use Rattle.std.proofs.Common.{◌≢◌, ◌∙◌, ap, refl, sym, subst, arith}
use Rattle.cell_machine.specs.Channels.{given}
use Rattle.cell_machine.specs.Shows.{ShowsSpe}
use Rattle.tag_groups.specs.declared.Tags.{Tags}
use Rattle.cell_signals.specs.declared.events.Events.{Events}
use Rattle.cell_machine.proofs.ChannelSteps.{events-read, first-read, second-read, read-event_mask, read-bad, read-mask, read-status, stalls-read, read-atomic, read-inbound}
use Rattle.cell_machine.proofs.processor.Processor.read_channel.Goals as goal

pub returns-in-0-clause-made : goal.returns-in-0-clause-made
returns-in-0-clause-made c = λ lines P shows. rw c.in-0.is (events-read lines c.read_events.result P c.read_events.new.self c.args.rt (c.read_events.ensures.made P shows))

pub returns-in-3-clause-made : goal.returns-in-3-clause-made
returns-in-3-clause-made c = λ lines P shows. rw c.in-3.is (first-read lines c.read_signal.result P c.read_signal.new.self c.args.rt (c.read_signal.ensures.made P shows))

pub returns-in-4-clause-made : goal.returns-in-4-clause-made
returns-in-4-clause-made c = λ lines P shows. rw c.in-4.is (second-read lines c.read_signal-in-4.result P c.read_signal-in-4.new.self c.args.rt (c.read_signal-in-4.ensures.made P shows))

pub returns-in-11-clause-made : goal.returns-in-11-clause-made
returns-in-11-clause-made c = λ lines P shows. rw (c.in-11.is, read-event_mask lines P c.args.rt) (subst (λ n. ShowsSpe c.give.new.self (given P c.args.rt n)) (c.mask-mask.ensures ∙ ap (λ (e : Events). e.mask) (sym shows.events)) (c.give.ensures P shows))

pub returns-in-12-clause-made : goal.returns-in-12-clause-made
returns-in-12-clause-made c = λ lines P shows. rw (c.in-12.is, read-mask lines P c.args.rt) (subst (λ n. ShowsSpe c.give-in-12.new.self (given P c.args.rt n)) (c.mask-mask-in-12.ensures ∙ ap (λ (t : Tags). t.mask) (sym shows.tags)) (c.give-in-12.ensures P shows))

pub returns-in-24-clause-made : goal.returns-in-24-clause-made
returns-in-24-clause-made c = λ lines P shows. rw (c.in-24.is, read-status lines P c.args.rt) (c.read_status.ensures.made P shows)

pub returns-in-25-clause-made : goal.returns-in-25-clause-made
returns-in-25-clause-made c = λ lines P shows. rw c.in-25.is (stalls-read lines c.read_stalls.result P c.read_stalls.new.self c.args.rt (c.read_stalls.ensures.made P shows))

pub returns-in-27-clause-made : goal.returns-in-27-clause-made
returns-in-27-clause-made c = λ lines P shows. rw (c.in-27.is, read-atomic lines P c.args.rt) (c.read_atomic.ensures.made P shows)

pub returns-in-29-clause-made : goal.returns-in-29-clause-made
returns-in-29-clause-made c = λ lines P shows. rw (c.in-29.is, read-inbound lines P c.args.rt) (c.read_inbound.ensures.made P shows)

pub returns-in_default-clause-made : goal.returns-in_default-clause-made
returns-in_default-clause-made c = λ lines P shows.
    let s : c.args.ch ≢ 0 = omega arith in
    let t : c.args.ch ≢ 3 = omega arith in
    let u : c.args.ch ≢ 4 = omega arith in
    let v : c.args.ch ≢ 11 = omega arith in
    let a : c.args.ch ≢ 12 = omega arith in
    let b : c.args.ch ≢ 24 = omega arith in
    let e : c.args.ch ≢ 25 = omega arith in
    let f : c.args.ch ≢ 27 = omega arith in
    let d : c.args.ch ≢ 29 = omega arith in
    rw (read-bad lines P c.args.rt c.args.ch s t u v a b e f d) (record { status = refl; pc = shows.pc; registers = shows.registers; store = shows.store; inbound = shows.inbound; outbound = shows.outbound; interrupt = shows.interrupt; channels = shows.channels; tags = shows.tags; signals = shows.signals; events = shows.events; queue = shows.queue })
