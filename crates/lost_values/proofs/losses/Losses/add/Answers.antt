use Rattle.lost_values.proofs.Knowing.{knows-left}
use Rattle.lost_values.proofs.losses.Losses.add.Goals as goal

pub returns-then-leaves_all : goal.returns-then-leaves_all
returns-then-leaves_all c = knows-left c.args.machine.now c.args.step c.args.effect.now c.requires.effect c.args.self.now c.requires.knows (c.leaves_all.ensures c.if-leaves_all.true)
