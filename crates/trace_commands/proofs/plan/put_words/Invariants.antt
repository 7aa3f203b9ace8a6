use Rattle.std.proofs.Common.{◌≡◌, ◌++◌, length}
use Rattle.std.specs.List.{flat_map}
use Rattle.cell_base.specs.Words.{words_in}
use Rattle.trace_commands.specs.Plans.{spaced}
use Rattle.trace_commands.proofs.plan.put_words.Given as goal

abbrev pub invariant-loop-word : goal.invariant-loop-word
invariant-loop-word l = l.out.items ++ flat_map spaced (words_in l.rest) ≡ l.fn.out.items ++ flat_map spaced (words_in l.words)

abbrev pub decreases-loop-word : goal.decreases-loop-word
decreases-loop-word l = length (words_in l.rest)
