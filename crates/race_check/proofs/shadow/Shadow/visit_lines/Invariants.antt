use Rattle.race_check.specs.Walks.{IsOrdered}
use Rattle.race_check.proofs.Spans.{TakesBelow}
use Rattle.race_check.proofs.shadow.Shadow.visit_lines.Given as goal

abbrev pub invariant-loop-line : goal.invariant-loop-line
invariant-loop-line l = TakesBelow (IsOrdered l.walk.machine) l.initial.self l.self l.span l.step l.writes l.line l.latest
