use Rattle.std.proofs.Common.{sym, ap, ◌∙◌}
use Rattle.std.specs.Option.{option_map}
use Rattle.spu_asm.specs.declared.syntax.ListedLine.{ListedLine}
use Rattle.hunt_reports.specs.Origins.{is_line}
use Rattle.hunt_reports.proofs.OriginLaws.{find_here, find_more}
use Rattle.hunt_reports.proofs.origins.line_at.Goals as goal

pub loop-line-preserved : goal.loop-line-preserved
loop-line-preserved c = find_more (is_line c.args.at) c.args.lines.now c.loop-line.line-index _ c.loop-line-test.true c.loop-line.invariant (sym c.is_line.ensures ∙ c.if-is_line.false)

pub returns-then-is_line : goal.returns-then-is_line
returns-then-is_line c =
    sym (ap (option_map (λ (l : ListedLine). l.number)) (find_here (is_line c.args.at) c.args.lines.now c.loop-line.line-index _ c.loop-line-test.true c.loop-line.invariant (sym c.is_line.ensures ∙ c.if-is_line.true)))
