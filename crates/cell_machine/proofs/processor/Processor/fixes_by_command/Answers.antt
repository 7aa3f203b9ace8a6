use Rattle.std.proofs.Common.{sym, ◌∙◌, ap}
use Rattle.std.specs.Prelude.{Ok}
use Rattle.mfc_command.specs.declared.command.Order.TheVariants.{Queued}
use Rattle.mfc_command.specs.Check.{checked}
use Rattle.mfc_command.proofs.CheckLemmas.{checked-slot}
use Rattle.cell_channels.specs.declared.channels.Channels.{Channels}
use Rattle.tag_groups.specs.declared.Tags.{Tags}
use Rattle.cell_machine.specs.Channels.{with_issued}
use Rattle.cell_machine.specs.Effects.{is_fixed}
use Rattle.cell_machine.proofs.Telling.{command-queued, command-line, command-fault, never-made}
use Rattle.cell_machine.proofs.processor.Processor.fixes_by_command.Goals as goal

pub returns-then-not-may_command : goal.returns-then-not-may_command
returns-then-not-may_command c = λ P Q registers store shows made.
    absurd (never-made c.args.lines _ Q c.args.op
    (sym (c.may_command.ensures.may _ (record { channels = shows.channels; tags = shows.tags; signals = shows.signals; events = shows.events; queue = shows.queue; inbound = shows.inbound; outbound = shows.outbound; interrupt = shows.interrupt })) ∙ c.if-not-may_command.true) made)

pub fixes_by_issue-requires-clause-free : goal.fixes_by_issue-requires-clause-free
fixes_by_issue-requires-clause-free c = (rw c.if-not-may_command.false at c.may_command.ensures.free) (checked-slot c.params.result c.args.op c.args.lines (Queued c.in-Ok-Queued.command) (sym c.check.ensures.checked ∙ c.in-Ok-Queued.is ∙ ap Ok c.in-Ok-Queued.field-0-is))

pub returns-in-Ok-Queued : goal.returns-in-Ok-Queued
returns-in-Ok-Queued c = λ P Q registers store shows made.
    c.fixes_by_issue.ensures P.moves shows.queue ∙ ap (λ (t : Tags). is_fixed t (with_issued P.moves c.in-Ok-Queued.command)) (sym shows.tags)
    ∙ sym (command-queued c.args.lines _ Q c.args.op c.in-Ok-Queued.command
    (ap (λ (s : Channels). checked s.params c.args.op c.args.lines) shows.channels ∙ ap (λ p. checked p c.args.op c.args.lines) (sym c.params.ensures) ∙ sym c.check.ensures.checked ∙ c.in-Ok-Queued.is ∙ ap Ok c.in-Ok-Queued.field-0-is) made).0.fixes

pub returns-in-Ok-Atomic : goal.returns-in-Ok-Atomic
returns-in-Ok-Atomic c = λ P Q registers store shows made.
    c.fixes.ensures P shows
    ∙ sym (command-line c.args.lines _ Q c.args.op _
    (ap (λ (s : Channels). checked s.params c.args.op c.args.lines) shows.channels ∙ ap (λ p. checked p c.args.op c.args.lines) (sym c.params.ensures) ∙ sym c.check.ensures.checked ∙ c.in-Ok-Atomic.is ∙ ap Ok c.in-Ok-Atomic.field-0-is) made).0.fixes

pub returns-in-Err : goal.returns-in-Err
returns-in-Err c = λ P Q registers store shows made.
    c.fixes-in-Err.ensures P shows
    ∙ sym (command-fault c.args.lines _ Q c.args.op _
    (ap (λ (s : Channels). checked s.params c.args.op c.args.lines) shows.channels ∙ ap (λ p. checked p c.args.op c.args.lines) (sym c.params.ensures) ∙ sym c.check.ensures.checked ∙ c.in-Err.is) made).1
