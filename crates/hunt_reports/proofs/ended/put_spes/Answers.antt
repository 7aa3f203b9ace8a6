use Rattle.std.proofs.Common.{arith}
use Rattle.hunt_reports.proofs.Ends.{spes_more, spes_all}
use Rattle.hunt_reports.proofs.ended.put_spes.Goals as goal

pub loop-ended-preserved : goal.loop-ended-preserved
loop-ended-preserved c = record {
  number = let same = c.loop-ended.invariant.number in omega (arith, same);
  whole = rw c.in_ok-put_spe.ensures (spes_more c.loop-ended.out.items _ _ c.loop-ended.p c.loop-ended.ended-index c.args.spes.now c.loop-ended-test.true c.loop-ended.invariant.whole);
}

pub returns : goal.returns
returns c = spes_all c.loop-ended.out.items _ c.loop-ended.p c.loop-ended.ended-index c.args.spes.now c.loop-ended-test.false c.loop-ended.invariant.whole
