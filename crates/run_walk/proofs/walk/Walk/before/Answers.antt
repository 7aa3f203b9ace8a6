use Rattle.std.proofs.Common.{◌-◌, length, sym, subst}
use Rattle.race_order.specs.OrderedRuns.{StandsForRun}
use Rattle.run_walk.specs.Walks.{Stands}
use Rattle.run_walk.proofs.Walking.{says-ordered}
use Rattle.run_walk.proofs.walk.Walk.before.Goals as goal

pub before-requires : goal.before-requires
unfolding Stands
before-requires g c = (subst (StandsForRun c.args.self.now.orderer) (sym c.requires.0) c.requires.1.0, c.requires.1.1)

pub returns : goal.returns
returns g c = says-ordered g.m c.args.i (length g.m.steps - 1) c.before-2.result c.before-2.ensures.ordered
