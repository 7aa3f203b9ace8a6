use Rattle.cell_machine.proofs.commands.Commands.has_element.Goals as goal

pub returns : goal.returns
returns c = λ m d shows at. c.has_next.ensures m c.args.cmd d (c.list.ensures m d shows at)
