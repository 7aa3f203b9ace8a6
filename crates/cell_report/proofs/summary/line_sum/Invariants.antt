use Rattle.std.proofs.Common.{◌≡◌, ◌*◌, ◌≤◌, take}
use Rattle.std.specs.List.{sum_by}
use Rattle.cell_base.specs.Bytes.{number}
use Rattle.cell_report.proofs.summary.line_sum.Given as goal

-- the sum of the words so far
abbrev pub invariant-loop-word : goal.invariant-loop-word
invariant-loop-word l = record {
  so_far : l.sum ≡ sum_by number (take l.word-index l.words);
  small : l.sum ≤ l.word-index * 4294967295;
}
