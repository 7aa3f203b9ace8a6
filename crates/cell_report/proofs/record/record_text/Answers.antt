use Rattle.std.proofs.Common.{arith}
use Rattle.cell_report.proofs.Records.{next_stretch, rest_short, counted}
use Rattle.cell_report.proofs.record.record_text.Goals as goal

pub loop-first-preserved : goal.loop-first-preserved
loop-first-preserved c =
    let parts = c.in-Some.ensures.cases in
    let long = parts.1 in
    let few = c.loop-first.invariant.few in
    let short = rest_short c.in-Some.behind.now c.further-more.result in
    record {
      few = omega (arith, few, short, long);
      so_far = next_stretch c.loop-first.out.items _ _ c.loop-first.rest.now c.in-Some.behind.now c.in-Some.first.now c.further-more.result parts.0 c.further-more.ensures.len c.loop-first.invariant.so_far c.in_ok-put_stretch.ensures;
    }

pub returns : goal.returns
returns c = counted c.loop-first.out.items _ _ c.loop-first.rest.now c.args.steps.now c.in_default.ensures.cases c.loop-first.invariant.so_far c.in_ok-put_count.ensures
