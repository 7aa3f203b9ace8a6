use Rattle.std.proofs.Common.{◌-◌, length, sym, ap, ◌∙◌, true≢false}
use Rattle.std.specs.Prelude.{is_ok}
use Rattle.std.specs.Prelude.{is_some, not, ◌==◌}
use Rattle.cell_signals.specs.declared.signals.Signals.{Signals}
use Rattle.cell_signals.specs.Registers.{register_of}
use Rattle.cell_signals.specs.Events.{status_of}
use Rattle.tag_groups.specs.declared.Tags.{Tags}
use Rattle.cell_machine.proofs.SpeShown.{outstanding-same}
use Rattle.cell_machine.proofs.ChannelSteps.{count-ok, counts-are}
use Rattle.cell_machine.proofs.processor.Processor.count.Goals as goal

pub returns-in-Ok : goal.returns-in-Ok
returns-in-Ok c = λ P shows here.
    count-ok P c.args.ch c.in-Ok.count _ _ shows.channels
    (counts-are P c.free.result c.len.result c.len-2.result c.len-3.result c.ready.result c.ready-2.result c.ready-3.result (not (c.status.result == 0)) (c.ready-2.ensures ∙ ap (λ (s : Signals). (register_of s 1).ready) (sym shows.signals)) (c.ready-3.ensures ∙ ap (λ (s : Signals). (register_of s 2).ready) (sym shows.signals)) (ap (λ n. not (n == 0)) (c.status.ensures ∙ ap status_of (sym shows.events))) (c.free.ensures shows.queue.calls shows.queue.stands ∙ ap (λ xs. 16 - length xs) (outstanding-same shows.queue.calls P shows.queue.moves)) (c.ready.ensures ∙ ap (λ (t : Tags). is_some t.status) (sym shows.tags)) (c.len.ensures.count ∙ ap length (sym shows.inbound)) (c.len-2.ensures.count ∙ ap length (sym shows.outbound)) (c.len-3.ensures.count ∙ ap length (sym shows.interrupt)))
    (rw c.in-Ok.is at c.count.ensures.count)

pub returns-in-Err : goal.returns-in-Err
returns-in-Err c = λ P shows here.
    absurd (true≢false (sym here ∙ sym c.count.ensures.listed ∙ ap is_ok c.in-Err.is))
