use Rattle.std.proofs.Common.{map, arith}
use Rattle.hunt_tally.specs.Lines.{told_by}
use Rattle.hunt_texts.specs.Ends.{ending_line}
use Rattle.hunt_texts.proofs.RowLemmas.{rows_more}
use Rattle.hunt_texts.proofs.GroupLemmas.{line_at}
use Rattle.hunt_texts.proofs.ends.put_first.Goals as goal

pub loop-place-preserved : goal.loop-place-preserved
loop-place-preserved c =
    let below = c.loop-place-test.true in
    let least = c.min-place-end.ensures in
    rows_more (ending_line c.args.from) c.args.out.now.items c.loop-place.out.items _ (map told_by c.args.endings.now) c.loop-place.place _
    (line_at c.args.endings.now c.loop-place.place _ (omega (arith, below, least))) c.loop-place.invariant c.in_ok-put_ending.ensures
