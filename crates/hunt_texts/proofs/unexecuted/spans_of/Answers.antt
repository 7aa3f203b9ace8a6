use Rattle.std.proofs.lemmas.List.{nil_from_length}
use Rattle.hunt_texts.proofs.SpanLemmas.{line_executed, line_missed, lines_end}
use Rattle.hunt_texts.proofs.unexecuted.spans_of.Goals as goal

pub loop-line-preserved-in_ok-close : goal.loop-line-preserved-in_ok-close
loop-line-preserved-in_ok-close c =
    line_executed c.loop-line.begun c.loop-line.spans.items _ _ c.in-Some.line.now c.loop-line.rest.now c.in-Some.after.now c.in-Some.ensures.cases.0 c.if-line.true c.in_ok-close.ensures c.loop-line.invariant

pub loop-line-preserved : goal.loop-line-preserved
loop-line-preserved c =
    line_missed c.loop-line.begun c.grown.result c.loop-line.spans.items _ c.in-Some.line.now c.loop-line.rest.now c.in-Some.after.now c.in-Some.ensures.cases.0 c.if-line.false c.grown.ensures c.loop-line.invariant

pub returns : goal.returns
returns c =
    lines_end c.loop-line.begun c.loop-line.spans.items _ _ c.loop-line.rest.now (nil_from_length c.loop-line.rest.now c.in_default.ensures.cases) c.in_ok-close-2.ensures c.loop-line.invariant
