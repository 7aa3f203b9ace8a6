use Rattle.std.proofs.Common.{◌≡◌, ◌++◌, length}
use Rattle.cell_base.specs.Words.{words_in}
use Rattle.hunt_command.specs.Expected.{spaced}
use Rattle.hunt_command.proofs.expected.put_spaced.Given as goal

abbrev pub invariant-loop-word : goal.invariant-loop-word
invariant-loop-word l = l.out.items ++ spaced (words_in l.rest) ≡ l.fn.out.items ++ spaced (words_in l.words)

abbrev pub decreases-loop-word : goal.decreases-loop-word
decreases-loop-word l = length (words_in l.rest)
