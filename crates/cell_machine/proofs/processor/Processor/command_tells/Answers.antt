use Rattle.std.proofs.Common.{sym, ◌∙◌, ap, length}
use Rattle.std.specs.Prelude.{Some, Ok}
use Rattle.cell_base.specs.declared.steps.ChannelOp.TheVariants.{Write}
use Rattle.cell_channels.specs.declared.channels.Channels.{Channels}
use Rattle.mfc_command.specs.Check.{checked}
use Rattle.cell_machine.specs.declared.effect.Note.TheVariants.{Issue}
use Rattle.cell_machine.proofs.Telling.{told-off, queued-told, line-told, command-fault}
use Rattle.cell_machine.proofs.processor.Processor.command_tells.Goals as goal

pub returns-in-Ok-Queued : goal.returns-in-Ok-Queued
returns-in-Ok-Queued c = λ spe P Q registers store shows on made.
    let q = shows.queue in
    ap (λ n. Issue n c.in-Ok-Queued.command) (c.issued.ensures q.calls q.stands ∙ ap length q.moves.done.issued)
    ∙ sym (queued-told c.args.lines spe c.args.op P Q registers store c.in-Ok-Queued.command
    (ap (λ (s : Channels). checked s.params c.args.op c.args.lines) shows.channels ∙ ap (λ p. checked p c.args.op c.args.lines) (sym c.params.ensures) ∙ sym c.check.ensures.checked ∙ c.in-Ok-Queued.is ∙ ap Ok c.in-Ok-Queued.field-0-is) made)

pub returns-in-Ok-Atomic : goal.returns-in-Ok-Atomic
returns-in-Ok-Atomic c = λ spe P Q registers store shows on made.
    sym (line-told c.args.lines spe c.args.op P Q registers store _
    (ap (λ (s : Channels). checked s.params c.args.op c.args.lines) shows.channels ∙ ap (λ p. checked p c.args.op c.args.lines) (sym c.params.ensures) ∙ sym c.check.ensures.checked ∙ c.in-Ok-Atomic.is ∙ ap Ok c.in-Ok-Atomic.field-0-is) made)

pub returns-in-Err : goal.returns-in-Err
returns-in-Err c = λ spe P Q registers store shows on made.
    sym (told-off spe P Q (Some (Write 21 c.args.op)) on (command-fault c.args.lines _ Q c.args.op _
    (ap (λ (s : Channels). checked s.params c.args.op c.args.lines) shows.channels ∙ ap (λ p. checked p c.args.op c.args.lines) (sym c.params.ensures) ∙ sym c.check.ensures.checked ∙ c.in-Err.is) made).0)
