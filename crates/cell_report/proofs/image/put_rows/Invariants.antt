use Rattle.std.proofs.Common.{◌≡◌, ◌+◌, ◌*◌, ◌++◌}
use Rattle.std.specs.List.{flat_map, range_with_len}
use Rattle.cell_report.specs.Images.{row_of, row_line}
use Rattle.cell_report.proofs.image.put_rows.Given as goal

-- the rows so far
abbrev pub invariant-loop-k : goal.invariant-loop-k
invariant-loop-k l = l.out.items ≡ l.fn.out.items ++ flat_map (λ k. row_line l.word (l.at + 16 * k) (row_of l.bytes k)) (range_with_len 0 l.k)
