use Rattle.std.proofs.Common.{◌++◌, ap, ◌∙◌, arith}
use Rattle.hunt_reports.specs.Coverage.{some_source}
use Rattle.hunt_reports.proofs.CoverageLemmas.{source_more, sources_done}
use Rattle.hunt_reports.proofs.coverage.coverage_of.Goals as goal

pub loop-number-preserved : goal.loop-number-preserved
loop-number-preserved c =
    let below = c.loop-number-test.true in
    source_more c.args.places.now c.args.executed.now c.as_slice-sources.result.now c.args.places.now.sources.items c.loop-number.coverage.items _ _ c.loop-number.number c.index-sources-number.result
    c.as_slice-sources.ensures.value (omega (arith, below))
    (c.in_ok-add_source.ensures ∙ ap (λ s. c.loop-number.coverage.items ++ some_source c.args.places.now c.args.executed.now c.loop-number.number s) c.index-sources-number.is) c.loop-number.invariant

pub returns : goal.returns
returns c =
    let past = c.loop-number-test.false in
    sources_done c.args.places.now c.args.executed.now c.as_slice-sources.result.now c.args.places.now.sources.items c.loop-number.coverage.items _ c.loop-number.number
    c.as_slice-sources.ensures.value (omega (arith, past)) c.loop-number.invariant
