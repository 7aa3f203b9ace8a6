use Rattle.std.proofs.Common.{◌≡◌, ◌++◌, map, take}
use Rattle.hunt_tally.specs.Tallies.{told_in}
use Rattle.hunt_texts.specs.Findings.{of_kind}
use Rattle.hunt_texts.specs.Founds.{found_by}
use Rattle.hunt_texts.proofs.found.add_kind.Given as goal

abbrev pub invariant-loop-place : goal.invariant-loop-place
invariant-loop-place l = map found_by l.found.items ≡ map found_by l.fn.found.items ++ of_kind l.kind (take l.place (told_in l.findings))
