use Rattle.std.proofs.Common.{arith, ap}
use Rattle.cell_turn.specs.Known.{Known}
use Rattle.spe_workers.proofs.Ending.{popped, ended_join, own_join}
use Rattle.spe_workers.proofs.run.join_all.Goals as goal

pub loop-worker-init : goal.loop-worker-init
loop-worker-init c =
    let a = popped c.args.shared.now _ _ _ c.in-Some.field-0 c.pop.ensures.items c.in-Some.is c.requires.done in
    record { own = a.1.0.1; tokens = omega (arith, a.1.0.0, c.in-Some.ensures.cases); ended = a.1.1; left = a.0 }

pub join-requires-clause-other_own : goal.join-requires-clause-other_own
join-requires-clause-other_own c =
    (popped c.args.shared.now _ _ _ c.in-Some-pop.worker c.pop-in-loop-worker.ensures.items c.in-Some-pop.is c.loop-worker.invariant.left).1.0.1

pub loop-worker-preserved : goal.loop-worker-preserved
loop-worker-preserved c =
    let i = c.loop-worker.invariant in
    let s = c.args.shared.now in
    let a = popped s _ _ _ c.in-Some-pop.worker c.pop-in-loop-worker.ensures.items c.in-Some-pop.is i.left in
    let j = c.join.ensures.joined in
    let sum = ap (λ (k : Known). k.tokens) j.same in record {
      own = own_join _ _ _ s i.own j;
      tokens = omega (arith, a.1.0.0, i.tokens, sum, c.in-Some-pop.ensures.cases);
      ended = ended_join _ _ _ s i.own a.1.0.1 i.ended a.1.1 j;
      left = a.0;
    }
