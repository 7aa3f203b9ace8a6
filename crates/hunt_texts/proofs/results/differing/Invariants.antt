use Rattle.std.proofs.Common.{◌≡◌, length}
use Rattle.cell_base.specs.Words.{lines_of}
use Rattle.hunt_texts.specs.Results.{apart}
use Rattle.hunt_texts.proofs.results.differing.Given as goal

abbrev pub invariant-loop-rest : goal.invariant-loop-rest
invariant-loop-rest l = apart (lines_of l.text) (lines_of l.other_text) ≡ apart (lines_of l.rest) (lines_of l.other)

abbrev pub decreases-loop-rest : goal.decreases-loop-rest
decreases-loop-rest l = length l.rest
