use Rattle.std.proofs.Common.{sym, ◌∙◌, ap, subst}
use Rattle.mfc_queue.specs.Stands.{StandsFor, place_in}
use Rattle.cell_machine.proofs.CommandsShown.{kept-progress, kept-closed, kept-open}
use Rattle.cell_machine.proofs.commands.Commands.keep.Goals as goal

pub returns-then-complete : goal.returns-then-complete
returns-then-complete c = λ m d but at list some stands.
    kept-closed c.args.self.now.queue _ _ m c.args.cmd d c.args.list but _ at list some stands (sym (c.complete.ensures _ stands) ∙ c.if-complete.true)
    (c.set_progress.ensures.progress m d but.kept at (kept-progress m c.args.cmd d c.args.list c.new.result list some stands c.new.ensures.list c.new.ensures.others))
    (c.retire.ensures.stands but.calls (subst (λ q. StandsFor q but.calls) (sym c.set_progress.ensures.queue) but.stands))
    (λ other differs. c.retire.ensures.places other differs ∙ ap (λ q. place_in q other) c.set_progress.ensures.queue)

pub returns-else-complete : goal.returns-else-complete
returns-else-complete c = λ m d but at list some stands.
    kept-open c.args.self.now.queue _ _ m c.args.cmd d but _ at list some (sym (c.complete.ensures _ stands) ∙ c.if-complete.false)
    (c.set_progress.ensures.progress m d but.kept at (kept-progress m c.args.cmd d c.args.list c.new.result list some stands c.new.ensures.list c.new.ensures.others)) c.set_progress.ensures.queue
