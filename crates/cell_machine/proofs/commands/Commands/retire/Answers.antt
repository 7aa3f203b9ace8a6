use Rattle.cell_machine.proofs.CommandsShown.{retire-queue}
use Rattle.cell_machine.proofs.commands.Commands.retire.Goals as goal

pub returns : goal.returns
returns c = λ m d shows at kept.
    retire-queue c.args.self.now.queue _ c.args.self.now.progress m c.args.cmd d shows at kept (c.retire.ensures.stands shows.calls shows.stands) c.retire.ensures.places
