use Rattle.std.proofs.Common.{◌≡◌, ◌++◌, drop, map}
use Rattle.hunt_tally.specs.Lines.{told_by}
use Rattle.hunt_texts.specs.Lists.{from_place}
use Rattle.hunt_texts.specs.Results.{result_text}
use Rattle.hunt_texts.proofs.results.put_results_of.Given as goal

abbrev pub invariant-loop-place : goal.invariant-loop-place
invariant-loop-place l =
    l.out.items ++ from_place (result_text l.from) l.place (drop l.place (map told_by l.results)) ≡ l.fn.out.items ++ from_place (result_text l.from) 0 (map told_by l.results)
