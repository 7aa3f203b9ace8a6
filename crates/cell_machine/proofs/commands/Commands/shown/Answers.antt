use Rattle.std.proofs.Common.{◌∙◌}
use Rattle.cell_machine.proofs.SpeShown.{command-is, list-kind, plain-kind}
use Rattle.cell_machine.proofs.CommandsShown.{plain-unstalled}
use Rattle.cell_machine.proofs.Showing.{shown-list, shown-plain}
use Rattle.cell_machine.proofs.commands.Commands.shown.Goals as goal

pub returns-in-Some : goal.returns-in-Some
returns-in-Some c = λ m d shows at.
    let same = command-is shows.calls m c.args.cmd c.command-command.result d shows.moves (c.command-command.ensures.command shows.calls shows.stands) at in
    let l = list-kind m c.args.cmd d c.list_of.result c.in-Some.list (c.list_of.ensures m d shows at) c.in-Some.is in
    shown-list m c.args.cmd _ _ _ d _ _ _ l.0 same (c.read.ensures _ l.1) (c.current.ensures.current _ l.1) (c.parts-parts.ensures shows.calls shows.stands ∙ shows.moves.done.parts c.args.cmd d at) (c.parts_left-left.ensures m d shows at) (c.stalled.ensures.stalled _ l.1)

pub returns-in-None : goal.returns-in-None
returns-in-None c = λ m d shows at.
    let same = command-is shows.calls m c.args.cmd c.command-command.result d shows.moves (c.command-command.ensures.command shows.calls shows.stands) at in
    let plain = plain-kind m c.args.cmd d c.list_of.result (c.list_of.ensures m d shows at) c.in-None.is in
    shown-plain m c.args.cmd _ _ d _ plain same (c.parts-parts.ensures shows.calls shows.stands ∙ shows.moves.done.parts c.args.cmd d at) (c.parts_left-left.ensures m d shows at) (plain-unstalled m c.args.cmd d plain)
