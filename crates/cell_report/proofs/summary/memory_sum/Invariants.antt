use Rattle.std.proofs.Common.{◌≡◌, ◌*◌, ◌≤◌, take}
use Rattle.std.specs.List.{sum}
use Rattle.cell_report.specs.Summaries.{memory_words}
use Rattle.cell_report.proofs.summary.memory_sum.Given as goal

-- the sum of the words of the lines so far
abbrev pub invariant-loop-index : goal.invariant-loop-index
invariant-loop-index l = record {
  so_far : l.sum ≡ sum (memory_words (take (128 * l.index) l.memory));
  small : l.sum ≤ l.index * 137438953440;
}
