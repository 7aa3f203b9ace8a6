use Rattle.run_permute.proofs.Sweeps.{swept-kept}
use Rattle.run_permute.proofs.Executed.{watches-with}
use Rattle.run_permute.proofs.watch.Watch.look.Goals as goal

pub returns-then-is_looked_at-clause-watches : goal.returns-then-is_looked_at-clause-watches
returns-then-is_looked_at-clause-watches g c p here ws =
    watches-with _ _ _ _ _ _ ws c.sweep.ensures.rest (swept-kept g.here.run p g.here.place here c.args.self.now.kept.items c.sweep.new.self.kept.items ws.commands c.sweep.ensures.swept).0

pub returns-then-is_looked_at-clause-left : goal.returns-then-is_looked_at-clause-left
returns-then-is_looked_at-clause-left g c p here ws looked =
    (swept-kept g.here.run p g.here.place here c.args.self.now.kept.items c.sweep.new.self.kept.items ws.commands c.sweep.ensures.swept).1
