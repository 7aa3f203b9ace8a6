use Rattle.std.proofs.Common.{arith, refl, get_or, false}
use Rattle.trace_commands.proofs.RangesLaws.{one_mark, all_marks}
use Rattle.trace_commands.proofs.TellLaws.{on_ok}
use Rattle.trace_commands.proofs.ranges.put_ranges.Goals as goal

pub loop-is_marked-preserved : goal.loop-is_marked-preserved
loop-is_marked-preserved c =
    record {
      place = omega (arith, c.loop-is_marked.invariant.place);
      text = one_mark c.loop-is_marked.out.items c.put_mark.new.out.items _ c.args.layout c.loop-is_marked.place c.loop-is_marked.is_marked-index c.loop-is_marked.last c.in_ok-last.last
          (get_or c.args.marks.now c.loop-is_marked.is_marked-index false) false c.args.marks.now (omega arith) refl c.in_ok-last.ensures.text c.in_ok-last.ensures.last c.loop-is_marked.invariant.text;
    }

pub returns : goal.returns
returns c = on_ok c.end_range.result _ _ (λ h. all_marks c.loop-is_marked.out.items c.end_range.new.out.items _ c.args.layout c.loop-is_marked.place c.loop-is_marked.is_marked-index c.loop-is_marked.last c.args.marks.now (omega arith) h c.loop-is_marked.invariant.text) c.end_range.ensures
