use Rattle.std.proofs.Common.{◌≡◌, take, None}
use Rattle.std.specs.List.{find}
use Rattle.hunt_reports.specs.Origins.{is_line}
use Rattle.hunt_reports.proofs.origins.line_at.Given as goal

abbrev pub invariant-loop-line : goal.invariant-loop-line
invariant-loop-line l = find (is_line l.at) (take l.line-index l.lines) ≡ None
