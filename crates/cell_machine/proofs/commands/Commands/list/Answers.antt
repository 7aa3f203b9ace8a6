use Rattle.cell_machine.proofs.SpeShown.{progress-there}
use Rattle.cell_machine.proofs.commands.Commands.list.Goals as goal

pub returns : goal.returns
returns c = λ m d shows at.
    let w = c.requires.waits shows.calls shows.stands in
    (progress-there c.args.self.now.queue c.args.self.now.progress m c.args.cmd c.args.w.place d _ shows.kept at w.place).list
