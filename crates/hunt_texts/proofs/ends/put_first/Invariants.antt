use Rattle.std.proofs.Common.{◌≡◌, ◌++◌, take, map}
use Rattle.std.specs.List.{flat_map}
use Rattle.hunt_tally.specs.Lines.{told_by}
use Rattle.hunt_texts.specs.Ends.{ending_line}
use Rattle.hunt_texts.proofs.ends.put_first.Given as goal

abbrev pub invariant-loop-place : goal.invariant-loop-place
invariant-loop-place l = l.out.items ≡ l.fn.out.items ++ flat_map (ending_line l.from) (take l.place (map told_by l.endings))
