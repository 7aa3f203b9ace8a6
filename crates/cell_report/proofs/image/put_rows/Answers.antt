use Rattle.std.proofs.Common.{◌+◌, ◌*◌, ◌++◌, ◌∙◌, ap}
use Rattle.cell_report.specs.Images.{row_of, row_line}
use Rattle.state_lines.proofs.Rows.{rows-more}
use Rattle.cell_report.proofs.image.put_rows.Goals as goal

pub loop-k-preserved : goal.loop-k-preserved
loop-k-preserved c =
    rows-more (λ k. row_line c.args.word.now (c.args.at + 16 * k) (row_of c.args.bytes.now k)) c.args.out.now.items c.loop-k.out.items _ c.loop-k.k c.loop-k.invariant
    (c.in_ok-put_row.ensures ∙ ap (λ row. c.loop-k.out.items ++ row_line c.args.word.now (c.args.at + 16 * c.loop-k.k) row) c.row_of.ensures)
