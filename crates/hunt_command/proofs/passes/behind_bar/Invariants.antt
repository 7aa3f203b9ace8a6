use Rattle.std.proofs.Common.{◌≡◌, length}
use Rattle.cell_base.specs.Words.{words_in}
use Rattle.hunt_command.specs.Passes.{behind_bar}
use Rattle.hunt_command.proofs.passes.behind_bar.Given as goal

abbrev pub invariant-loop-word : goal.invariant-loop-word
invariant-loop-word l = behind_bar (words_in l.rest) ≡ behind_bar (words_in l.words)

abbrev pub decreases-loop-word : goal.decreases-loop-word
decreases-loop-word l = length (words_in l.rest)
