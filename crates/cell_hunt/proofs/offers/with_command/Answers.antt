use Rattle.std.proofs.Common.{sym, ap, ◌∙◌}
use Rattle.cell_machine.specs.Choices.{queued_of}
use Rattle.cell_hunt.proofs.Commands.{command-beaten, command-best, command-kept, command-none}
use Rattle.cell_hunt.proofs.offers.with_command.Goals as goal

pub returns-in_default : goal.returns-in_default
returns-in_default c = λ steps so_far.
    command-kept c.args.machine.now c.args.strategy c.args.keys.now c.args.spe c.args.index c.args.word steps c.args.best
    (command-none c.args.machine.now c.args.spe c.args.index c.args.word c.queued_number.result c.queued_number.ensures c.in_default.is) so_far

pub returns-then-is_beaten : goal.returns-then-is_beaten
returns-then-is_beaten c = λ steps so_far.
    command-beaten c.args.machine.now c.args.strategy c.args.keys.now c.args.spe c.args.index c.args.word c.in-Some.cmd c.key_of-key.result c.queued_number.result steps c.args.best
    c.queued_number.ensures c.in-Some.is c.key_of-key.ensures (sym c.is_beaten.ensures ∙ c.if-is_beaten.true) so_far

pub returns-in-Some-pick_queued : goal.returns-in-Some-pick_queued
returns-in-Some-pick_queued c = λ steps so_far.
    command-best c.args.machine.now c.args.strategy c.args.keys.now c.args.spe c.args.index c.args.word c.in-Some.cmd c.key_of-key.result c.queued_number.result steps c.args.best c.in-Some-pick_queued.step
    c.queued_number.ensures c.in-Some.is c.key_of-key.ensures (sym c.is_beaten.ensures ∙ c.if-is_beaten.false)
    (sym (c.pick_queued.ensures.picked ∙ ap (queued_of c.args.machine.now c.args.spe c.args.index) c.from.ensures) ∙ c.in-Some-pick_queued.is) so_far

pub returns-in-None : goal.returns-in-None
returns-in-None c = λ steps so_far.
    command-kept c.args.machine.now c.args.strategy c.args.keys.now c.args.spe c.args.index c.args.word steps c.args.best
    (sym (c.pick_queued.ensures.picked ∙ ap (queued_of c.args.machine.now c.args.spe c.args.index) c.from.ensures) ∙ c.in-None.is) so_far
