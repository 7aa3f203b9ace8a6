use Rattle.std.proofs.Common.{◌≡◌, ◌++◌, drop}
use Rattle.hunt_texts.specs.Lists.{from_place}
use Rattle.hunt_texts.specs.Jsons.{line_at}
use Rattle.hunt_texts.proofs.sources.put_lines.Given as goal

abbrev pub invariant-loop-place : goal.invariant-loop-place
invariant-loop-place l = l.out.items ++ from_place line_at l.place (drop l.place l.lines) ≡ l.fn.out.items ++ from_place line_at 0 l.lines
