use Rattle.std.proofs.Common.{◌≡◌, map, filter, take}
use Rattle.hunt_tally.specs.Lines.{told_by}
use Rattle.hunt_tally.specs.Tallies.{told_in}
use Rattle.hunt_texts.specs.Ends.{is_stopped}
use Rattle.hunt_texts.proofs.ends.stopped_of.Given as goal

abbrev pub invariant-loop-place : goal.invariant-loop-place
invariant-loop-place l = map told_by l.lines.items ≡ filter is_stopped (take l.place (told_in l.endings))
