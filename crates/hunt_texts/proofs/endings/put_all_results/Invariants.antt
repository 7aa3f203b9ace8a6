use Rattle.std.proofs.Common.{◌≡◌, ◌++◌, drop}
use Rattle.hunt_tally.specs.Tallies.{told_in}
use Rattle.hunt_texts.specs.Lists.{from_place}
use Rattle.hunt_texts.specs.About.{facts}
use Rattle.hunt_texts.specs.Results.{ending_lines}
use Rattle.hunt_texts.proofs.endings.put_all_results.Given as goal

abbrev pub invariant-loop-place : goal.invariant-loop-place
invariant-loop-place l =
    l.out.items ++ from_place (ending_lines (facts l.about) (told_in l.endings) (told_in l.results)) l.place (drop l.place (told_in l.endings))
    ≡ l.fn.out.items ++ from_place (ending_lines (facts l.about) (told_in l.endings) (told_in l.results)) 0 (told_in l.endings)
