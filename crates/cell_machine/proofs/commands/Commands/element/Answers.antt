use Rattle.std.proofs.Common.{sym, ◌∙◌, ap}
use Rattle.std.specs.Prelude.{Some}
use Rattle.cell_machine.specs.Moves.{whole}
use Rattle.cell_machine.proofs.SpeShown.{command-is, list-kind, plain-kind, present-plain, on_some, on_none}
use Rattle.cell_machine.proofs.ListsGo.{current-part, current-none}
use Rattle.cell_machine.proofs.commands.Commands.element.Goals as goal

pub returns-in-Some-clause-some : goal.returns-in-Some-clause-some
returns-in-Some-clause-some c = on_some c.current.result _ (λ x is m d shows at.
    let l = list-kind m c.args.cmd d c.list.result c.in-Some.list (c.list.ensures m d shows at) c.in-Some.is in
    (current-part m c.args.cmd d x l.0 (shows.moves.done.elements c.args.cmd d at) (sym (c.current.ensures.current _ l.1) ∙ is)).0)

pub returns-in-Some-clause-none : goal.returns-in-Some-clause-none
returns-in-Some-clause-none c = on_none c.current.result _ (λ is m d e k shows at.
    let l = list-kind m c.args.cmd d c.list.result c.in-Some.list (c.list.ensures m d shows at) c.in-Some.is in
    current-none m c.args.cmd e k d l.0 (shows.moves.done.elements c.args.cmd d at) (sym (c.current.ensures.current _ l.1) ∙ is))

pub returns-in-None-clause-some : goal.returns-in-None-clause-some
returns-in-None-clause-some c = λ m d shows at.
    let same = command-is shows.calls m c.args.cmd c.args.w.command d shows.moves (c.requires.waits shows.calls shows.stands).command at in
    present-plain m c.args.cmd d (plain-kind m c.args.cmd d c.list.result (c.list.ensures m d shows at) c.in-None.is) ∙ ap (λ y. Some (whole y)) (sym same) ∙ ap (λ x. Some x) (sym c.whole.ensures)
