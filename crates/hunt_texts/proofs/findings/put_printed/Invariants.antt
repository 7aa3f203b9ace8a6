use Rattle.std.proofs.Common.{◌≡◌, ◌++◌, take, map}
use Rattle.std.specs.List.{flat_map}
use Rattle.hunt_texts.specs.About.{facts}
use Rattle.hunt_texts.specs.Findings.{finding_lines}
use Rattle.hunt_texts.specs.Founds.{found_by}
use Rattle.hunt_texts.proofs.findings.put_printed.Given as goal

abbrev pub invariant-loop-place : goal.invariant-loop-place
invariant-loop-place l = l.out.items ≡ l.fn.out.items ++ flat_map (finding_lines (facts l.about) l.all) (take l.place (map found_by l.found))
