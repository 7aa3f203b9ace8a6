use Rattle.std.proofs.Common.{arith}
use Rattle.hunt_texts.specs.Jsons.{line_at}
use Rattle.hunt_texts.proofs.PlaceLemmas.{place_more, place_past}
use Rattle.hunt_texts.proofs.SpanLemmas.{element_at}
use Rattle.hunt_texts.proofs.sources.put_lines.Goals as goal

pub loop-place-preserved : goal.loop-place-preserved
loop-place-preserved c =
    let below = c.loop-place-test.true in
    place_more line_at c.args.lines.now c.loop-place.out.items _ _ c.loop-place.place _ (element_at c.args.lines.now c.loop-place.place _ (omega (arith, below))) c.in_ok-put_line_at.ensures c.loop-place.invariant

pub returns : goal.returns
returns c =
    let past = c.loop-place-test.false in
    place_past line_at c.args.lines.now c.loop-place.out.items _ c.loop-place.place (omega (arith, past)) c.loop-place.invariant
