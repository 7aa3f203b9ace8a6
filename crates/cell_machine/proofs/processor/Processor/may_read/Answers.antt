use Rattle.std.proofs.Common.{◌≢◌, length, sym, ap, ◌∙◌, arith}
use Rattle.std.specs.Prelude.{is_some, nat_lt, not, ◌==◌}
use Rattle.cell_channels.specs.declared.channels.Channels.{Channels}
use Rattle.tag_groups.specs.declared.Tags.{Tags}
use Rattle.cell_signals.specs.declared.signals.Signals.{Signals}
use Rattle.cell_signals.specs.Registers.{register_of}
use Rattle.cell_signals.specs.Events.{status_of}
use Rattle.cell_machine.proofs.ChannelSteps.{events-ready, first-ready, second-ready, status-ready, stalls-ready, atomic-ready, read-ready, read-always}
use Rattle.cell_machine.proofs.processor.Processor.may_read.Goals as goal

pub returns-in-0 : goal.returns-in-0
returns-in-0 c = λ lines P rt shows. rw c.in-0.is (ap (λ n. not (n == 0)) (c.status.ensures ∙ ap status_of (sym shows.events)) ∙ sym (events-ready lines P rt))

pub returns-in-3 : goal.returns-in-3
returns-in-3 c = λ lines P rt shows. rw c.in-3.is (c.ready.ensures ∙ ap (λ (s : Signals). (register_of s 1).ready) (sym shows.signals) ∙ sym (first-ready lines P rt))

pub returns-in-4 : goal.returns-in-4
returns-in-4 c = λ lines P rt shows. rw c.in-4.is (c.ready-in-4.ensures ∙ ap (λ (s : Signals). (register_of s 2).ready) (sym shows.signals) ∙ sym (second-ready lines P rt))

pub returns-in-24 : goal.returns-in-24
returns-in-24 c = λ lines P rt shows. rw c.in-24.is (c.ready-in-24.ensures ∙ ap (λ (t : Tags). is_some t.status) (sym shows.tags) ∙ sym (status-ready lines P rt))

pub returns-in-25 : goal.returns-in-25
returns-in-25 c = λ lines P rt shows. rw c.in-25.is (c.has_stall.ensures ∙ ap (λ (s : Channels). not (s.stalls == 0)) (sym shows.channels) ∙ sym (stalls-ready lines P rt))

pub returns-in-27 : goal.returns-in-27
returns-in-27 c = λ lines P rt shows. rw c.in-27.is (c.has_atomic.ensures ∙ ap (λ (s : Channels). is_some s.atomic) (sym shows.channels) ∙ sym (atomic-ready lines P rt))

pub returns-in-29 : goal.returns-in-29
returns-in-29 c = λ lines P rt shows. rw c.in-29.is (ap (nat_lt 0) (c.len.ensures.count ∙ ap length (sym shows.inbound)) ∙ sym (read-ready lines P rt))

pub returns-in_default : goal.returns-in_default
returns-in_default c = λ lines P rt shows.
    let s : c.args.ch ≢ 0 = omega arith in
    let t : c.args.ch ≢ 3 = omega arith in
    let u : c.args.ch ≢ 4 = omega arith in
    let a : c.args.ch ≢ 24 = omega arith in
    let d : c.args.ch ≢ 25 = omega arith in
    let f : c.args.ch ≢ 27 = omega arith in
    let b : c.args.ch ≢ 29 = omega arith in
    sym (read-always lines P rt c.args.ch s t u a d f b)
