use Rattle.std.proofs.Common.{◌≡◌, ◌+◌, ◌*◌, ◌≤◌, ◌∙◌, ap, ap₂, length, slice_range, sym, arith}
use Rattle.cell_report.proofs.Words.{line_more}
use Rattle.cell_report.proofs.summary.memory_sum.Goals as goal

pub loop-index-preserved : goal.loop-index-preserved
loop-index-preserved c =
    let bytes = c.args.memory.now in
    let k = c.loop-index.index in
    let within : 128 * (k + 1) ≤ length bytes = omega arith in
    let line = c.copy_out.ensures ∙ ap (λ n. slice_range bytes (128 * k) (128 * k + n)) c.loop-index-test.array_long in
    record {
      so_far = ap₂ (λ a b. a + b) c.loop-index.invariant.so_far c.line_sum-sum.ensures.sum ∙ sym (line_more bytes c.copy_out.new.into k within line);
      small = omega arith;
    }
