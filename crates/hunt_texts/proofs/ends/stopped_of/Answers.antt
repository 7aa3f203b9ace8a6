use Rattle.std.proofs.Common.{filter, ap, ◌∙◌, arith}
use Rattle.hunt_tally.specs.Tallies.{told_in}
use Rattle.hunt_texts.specs.Ends.{is_stopped}
use Rattle.hunt_texts.proofs.FoundLemmas.{kept_more}
use Rattle.hunt_texts.proofs.RowLemmas.{take_past}
use Rattle.hunt_texts.proofs.ends.stopped_of.Goals as goal

pub loop-place-preserved : goal.loop-place-preserved
loop-place-preserved c = kept_more is_stopped (told_in c.args.endings.now) _ _ c.loop-place.place _ c.get.ensures c.loop-place.invariant c.in_ok-add_stopped.ensures

pub returns : goal.returns
returns c =
    let long = c.len-place-end.ensures in
    let past = c.loop-place-test.false in
    c.loop-place.invariant ∙ ap (filter is_stopped) (take_past (told_in c.args.endings.now) c.loop-place.place (omega (arith, long, past)))
