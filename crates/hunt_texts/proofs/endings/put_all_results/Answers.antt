use Rattle.std.proofs.Common.{◌++◌, map, ap, ◌∙◌, arith}
use Rattle.hunt_tally.specs.Tallies.{told_in}
use Rattle.hunt_tally.specs.Lines.{told_by}
use Rattle.hunt_texts.specs.About.{facts}
use Rattle.hunt_texts.specs.Results.{stopped_results, ending_lines}
use Rattle.hunt_texts.proofs.GroupLemmas.{there_is}
use Rattle.hunt_texts.proofs.PlaceLemmas.{place_more, place_past}
use Rattle.hunt_texts.proofs.endings.put_all_results.Goals as goal

pub loop-place-preserved : goal.loop-place-preserved
loop-place-preserved c =
    let groups = c.in_ok-groups.ensures in
    let below = c.loop-place-test.true in
    let end = c.len-place-end.ensures in
    let long = groups.long in
    let there = there_is c.in_ok-groups.groups.items c.loop-place.place c.index.result.now (omega (arith, below, end, long)) c.index.ensures in
    place_more (ending_lines (facts c.args.about.now) (told_in c.args.endings.now) (told_in c.args.results.now)) (told_in c.args.endings.now) c.loop-place.out.items _ _ c.loop-place.place _ c.get.ensures
    (c.in_ok-put_stopped.ensures ∙ ap (λ ts. c.loop-place.out.items ++ stopped_results (facts c.args.about.now) (told_by c.get.result) ts) (ap (map told_by) c.as_slice.ensures.value ∙ groups.each c.loop-place.place c.index.result.now there))
    c.loop-place.invariant

pub returns : goal.returns
returns c =
    let long = c.len-place-end.ensures in
    let past = c.loop-place-test.false in
    place_past (ending_lines (facts c.args.about.now) (told_in c.args.endings.now) (told_in c.args.results.now)) (told_in c.args.endings.now) c.loop-place.out.items _ c.loop-place.place (omega (arith, long, past)) c.loop-place.invariant
