use Rattle.std.proofs.Common.{◌∙◌, arith}
use Rattle.spe_workers.proofs.Rising.{further_step, worked}
use Rattle.spe_workers.proofs.worker.work.Goals as goal

pub returns-in-Over : goal.returns-in-Over
returns-in-Over g c =
    let i = c.loop.invariant in
    record { number = i.number; actor = i.actor; pass = worked _ _ _ _ i.further c.in-Over.ensures.same c.in-Over.ensures.tells c.in-Over.ensures.rests.1 }

pub loop-preserved : goal.loop-preserved
loop-preserved g c =
    let i = c.loop.invariant in
    let same = c.in-Made.ensures.same in
    let m = c.in-Made.ensures.tells in record {
      own = (same.0 ∙ i.own.0, same.1 ∙ i.own.1, same.2 ∙ i.own.2);
      number = i.number;
      actor = i.actor;
      further = further_step _ _ _ _ _ _ _ i.further same m;
      turns = omega (arith, m.place, m.not_below, i.turns);
    }
