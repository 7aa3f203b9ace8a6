use Rattle.std.proofs.Common.{map, arith}
use Rattle.std.proofs.lemmas.List.{length-map}
use Rattle.hunt_tally.specs.Lines.{told_by}
use Rattle.hunt_texts.specs.Results.{result_text}
use Rattle.hunt_texts.proofs.PlaceLemmas.{place_more, place_past}
use Rattle.hunt_texts.proofs.GroupLemmas.{line_at}
use Rattle.hunt_texts.proofs.results.put_results_of.Goals as goal

pub loop-place-preserved : goal.loop-place-preserved
loop-place-preserved c =
    let below = c.loop-place-test.true in
    place_more (result_text c.args.from) (map told_by c.args.results.now) c.loop-place.out.items _ _ c.loop-place.place _
    (line_at c.args.results.now c.loop-place.place _ (omega (arith, below))) c.in_ok-put_result.ensures c.loop-place.invariant

pub returns : goal.returns
returns c =
    let past = c.loop-place-test.false in
    place_past (result_text c.args.from) (map told_by c.args.results.now) c.loop-place.out.items _ c.loop-place.place (omega (arith, past, length-map c.args.results.now told_by)) c.loop-place.invariant
