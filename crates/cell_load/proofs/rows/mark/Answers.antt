use Rattle.std.proofs.Common.{◌≡◌, ◌&&◌, ◌||◌, nat_le, nat_lt, false, slice_index_or, ap, ◌∙◌, arith}
use Rattle.cell_load.proofs.RowLemmas.{next_mark}
use Rattle.cell_load.proofs.rows.mark.Goals as goal

pub loop-k-preserved : goal.loop-k-preserved
loop-k-preserved c = λ j within. next_mark c.loop-k.marks c.args.marks.now c.args.from c.loop-k.k j (omega arith) (omega arith) (c.loop-k.invariant j within)

pub returns : goal.returns
returns c = λ j within.
    let all : c.loop-k.k ≡ c.args.to = omega arith in
    c.loop-k.invariant j within ∙ ap (λ n. slice_index_or c.args.marks.now j false || (nat_le c.args.from j && nat_lt j n)) all
