use Rattle.std.proofs.Common.{◌<◌, ◌+◌, arith}
use Rattle.race_check.specs.Walks.{IsOrdered}
use Rattle.race_check.proofs.Spans.{all_below, below_end, takes_more}
use Rattle.race_check.proofs.shadow.Shadow.visit_lines.Goals as goal

pub loop-line-preserved : goal.loop-line-preserved
loop-line-preserved c =
    takes_more (IsOrdered c.args.walk.now.machine) c.args.self.now c.loop-line.self c.visit_line.new.self c.args.span.now c.args.step c.args.writes c.loop-line.line c.clip-entry.result c.clip-entry.ensures.step c.clip-entry.ensures.holds c.clip-entry.ensures.only c.loop-line.latest c.loop-line.invariant
    c.in_ok-visit_line.field-0 c.later-latest.result c.later-latest.ensures c.in_ok-visit_line.ensures

pub returns : goal.returns
returns c =
    all_below (IsOrdered c.args.walk.now.machine) c.args.self.now c.loop-line.self c.args.span.now c.args.step c.args.writes c.loop-line.line c.loop-line.latest
    (λ p x covered. let low : x < c.args.span.now.at + c.args.span.now.len = below_end c.args.span.now p x covered in omega arith) c.loop-line.invariant
