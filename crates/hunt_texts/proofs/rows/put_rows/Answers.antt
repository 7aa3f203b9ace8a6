use Rattle.std.proofs.Common.{◌++◌, ap, ◌∙◌, arith}
use Rattle.std.specs.List.{flat_map}
use Rattle.hunt_tally.specs.Tallies.{told_in}
use Rattle.hunt_texts.specs.Rows.{row_json}
use Rattle.hunt_texts.proofs.RowLemmas.{rows_more, take_past}
use Rattle.hunt_texts.proofs.rows.put_rows.Goals as goal

pub loop-place-preserved : goal.loop-place-preserved
loop-place-preserved c = rows_more (row_json c.args.row c.args.from) c.args.out.now.items c.loop-place.out.items _ (told_in c.args.tally.now) c.loop-place.place _ c.get.ensures c.loop-place.invariant c.in_ok-put_row.ensures

pub returns : goal.returns
returns c =
    let long = c.len-place-end.ensures in
    let past = c.loop-place-test.false in
    c.loop-place.invariant ∙ ap (λ ts. c.args.out.now.items ++ flat_map (row_json c.args.row c.args.from) ts) (take_past (told_in c.args.tally.now) c.loop-place.place (omega (arith, long, past)))
