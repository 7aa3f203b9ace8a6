use Rattle.std.proofs.Common.{◌<◌, length, sym, subst, arith}
use Rattle.std.specs.Prelude.{All}
use Rattle.hunt_reports.specs.declared.locations.Location.{Location}
use Rattle.hunt_reports.proofs.Running.{few_more, running_more, running_all, running_below}
use Rattle.hunt_reports.proofs.waits.running_of.Goals as goal

pub loop-ended-preserved : goal.loop-ended-preserved
loop-ended-preserved c = record {
  number = let same = c.loop-ended.invariant.number in omega (arith, same);
  few = few_more c.loop-ended.running.items _ _ _ _ _ c.in_ok-take_running.ensures c.loop-ended.invariant.few;
  whole = rw c.in_ok-take_running.ensures (running_more c.loop-ended.running.items _ _ c.loop-ended.p c.loop-ended.ended-index c.args.spes.now c.loop-ended-test.true c.loop-ended.invariant.whole);
}

pub returns-clause-running : goal.returns-clause-running
returns-clause-running c = running_all c.loop-ended.running.items _ c.loop-ended.p c.loop-ended.ended-index c.args.spes.now c.loop-ended-test.false c.loop-ended.invariant.whole

pub returns-clause-within : goal.returns-clause-within
returns-clause-within c =
    subst (All (λ (here : Location). here.spe < length c.args.spes.now))
    (sym (running_all c.loop-ended.running.items _ c.loop-ended.p c.loop-ended.ended-index c.args.spes.now c.loop-ended-test.false c.loop-ended.invariant.whole)) (running_below c.args.spes.now)
