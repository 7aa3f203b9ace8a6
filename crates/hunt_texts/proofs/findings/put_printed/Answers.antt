use Rattle.std.proofs.Common.{map, arith}
use Rattle.hunt_texts.specs.About.{facts}
use Rattle.hunt_texts.specs.Findings.{finding_lines}
use Rattle.hunt_texts.specs.Founds.{found_by}
use Rattle.hunt_texts.proofs.RowLemmas.{rows_more}
use Rattle.hunt_texts.proofs.GroupLemmas.{seen_at}
use Rattle.hunt_texts.proofs.findings.put_printed.Goals as goal

pub loop-place-preserved : goal.loop-place-preserved
loop-place-preserved c =
    let below = c.loop-place-test.true in
    let least = c.min-place-end.ensures in
    rows_more (finding_lines (facts c.args.about.now) c.args.all) c.args.out.now.items c.loop-place.out.items _ (map found_by c.args.found.now) c.loop-place.place _
    (seen_at found_by c.args.found.now c.loop-place.place _ (omega (arith, below, least))) c.loop-place.invariant c.in_ok-put_finding.ensures
