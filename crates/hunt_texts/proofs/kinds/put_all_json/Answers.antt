use Rattle.std.proofs.Common.{arith}
use Rattle.hunt_texts.specs.Jsons.{kind_at}
use Rattle.hunt_texts.proofs.PlaceLemmas.{place_more, place_past}
use Rattle.hunt_texts.proofs.kinds.put_all_json.Goals as goal

pub loop-place-preserved : goal.loop-place-preserved
loop-place-preserved c = place_more kind_at c.args.kinds.now c.loop-place.out.items _ _ c.loop-place.place _ c.get.ensures c.in_ok-put_kind_at.ensures c.loop-place.invariant

pub returns : goal.returns
returns c =
    let long = c.len-place-end.ensures in
    let past = c.loop-place-test.false in
    place_past kind_at c.args.kinds.now c.loop-place.out.items _ c.loop-place.place (omega (arith, long, past)) c.loop-place.invariant
