use Rattle.std.proofs.Common.{◌≡◌, take}
use Rattle.std.specs.List.{flat_map}
use Rattle.hunt_tally.specs.Coverage.{SourceLines}
use Rattle.hunt_texts.proofs.unexecuted.lines_in.Given as goal

abbrev pub invariant-loop-source : goal.invariant-loop-source
invariant-loop-source l = l.lines.items ≡ flat_map (λ (s : SourceLines). s.lines) (take l.source-index l.coverage)
