use Rattle.std.proofs.Common.{◌≡◌, ◌++◌, take}
use Rattle.std.specs.List.{flat_map}
use Rattle.hunt_tally.specs.Tallies.{told_in}
use Rattle.hunt_texts.specs.Rows.{row_json}
use Rattle.hunt_texts.proofs.rows.put_rows.Given as goal

abbrev pub invariant-loop-place : goal.invariant-loop-place
invariant-loop-place l = l.out.items ≡ l.fn.out.items ++ flat_map (row_json l.row l.from) (take l.place (told_in l.tally))
