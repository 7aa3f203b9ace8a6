use Rattle.std.proofs.Common.{ap, ◌∙◌, refl}
use Rattle.hunt_reports.specs.Lists.{bytes_in}
use Rattle.hunt_reports.specs.Races.{races_told, race_findings, leaves_out}
use Rattle.hunt_reports.proofs.Ends.{take_past}
use Rattle.hunt_reports.proofs.Told.{told_step, found_step, left_step, none_told, none_found}
use Rattle.hunt_reports.proofs.races.races_of.Goals as goal

pub loop-racing-init : goal.loop-racing-init
loop-racing-init c = record {
  told = c.new.ensures.items ∙ none_told c.args.places.now (bytes_in c.args.passed.now);
  findings = c.new-2.ensures.items ∙ none_found c.args.places.now (bytes_in c.args.passed.now);
  left = refl;
}

pub loop-racing-preserved : goal.loop-racing-preserved
loop-racing-preserved c =
    let key = c.as_slice.ensures.value ∙ (rw c.clear.ensures.items at c.in_ok-put_key.ensures) in
    record {
      told = told_step c.args.places.now (bytes_in c.args.passed.now) c.args.races.now c.loop-racing.racing-index _ c.as_slice.result.now _ _ c.loop-racing-test.true key c.loop-racing.invariant.told c.in_ok-take_race.ensures.told;
      findings = found_step c.args.places.now (bytes_in c.args.passed.now) c.args.races.now c.loop-racing.racing-index _ c.as_slice.result.now _ _ _ c.loop-racing-test.true key c.loop-racing.invariant.told c.loop-racing.invariant.findings c.in_ok-take_race.ensures.findings;
      left = left_step c.args.places.now (bytes_in c.args.passed.now) c.args.races.now c.loop-racing.racing-index _ c.as_slice.result.now _ _ c.loop-racing-test.true key c.loop-racing.invariant.left c.in_ok-take_race.ensures.left;
    }

pub returns-clause-told : goal.returns-clause-told
returns-clause-told c = c.loop-racing.invariant.told ∙ ap (races_told c.args.places.now (bytes_in c.args.passed.now)) (take_past c.args.races.now c.loop-racing.racing-index c.loop-racing-test.false)

pub returns-clause-findings : goal.returns-clause-findings
returns-clause-findings c = c.loop-racing.invariant.findings ∙ ap (race_findings c.args.places.now (bytes_in c.args.passed.now)) (take_past c.args.races.now c.loop-racing.racing-index c.loop-racing-test.false)

pub returns-clause-left : goal.returns-clause-left
returns-clause-left c = c.loop-racing.invariant.left ∙ ap (leaves_out c.args.places.now (bytes_in c.args.passed.now)) (take_past c.args.races.now c.loop-racing.racing-index c.loop-racing-test.false)
