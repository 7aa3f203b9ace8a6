use Rattle.std.proofs.Common.{rules, Some, ◌++◌, ◌≡◌, map, sym, ap, subst, append_assoc, ◌∙◌}
use Rattle.std.specs.List.{flat_map}
use Rattle.cell_machine.specs.Run.{EndsAs}
use Rattle.cell_report.specs.States.{states_of}
use Rattle.cell_hunt.specs.Racings.{AreAllRaces}
use Rattle.cell_hunt.specs.Endings.{AreAllEndings}
use Rattle.cell_hunt.specs.Executed.{executed_in}
use Rattle.cell_hunt.specs.Kinds.{kind_of}
use Rattle.hunt_reports.specs.Endings.{ended_in, ending_text}
use Rattle.hunt_reports.specs.Lists.{bytes_in}
use Rattle.hunt_reports.specs.Coverage.{number_of}
use Rattle.hunt_reports.specs.Missing.{missed_in}
use Rattle.hunt_reports.specs.Races.{races_told, race_findings, leaves_out}
use Rattle.hunt_reports.specs.Findings.{end_told}
use Rattle.hunt_reports.specs.Spent.{IsSpentBy, has_livelock}
use Rattle.hunt_reports.specs.Stops.{ended_told}
use Rattle.hunt_reports.specs.Waits.{running_from}
use Rattle.hunt_reports.specs.Warnings.{AreWarnings}
use Rattle.hunt_reports.specs.Reports.{IsReport, flaws_by, report_by}
use Rattle.hunt_reports.proofs.ReportParts.{reported}
use Rattle.hunt_reports.proofs.Spending.{few_spent}
use Rattle.hunt_reports.proofs.reporting.report_of.Goals as goal

pub take_end-requires-clause-loops : goal.take_end-requires-clause-loops
take_end-requires-clause-loops c = few_spent c.args.run.now c.as_slice-3.result.now c.end-end.result c.in_ok-spent.spent (search rules) c.in_ok-spent.ensures

pub returns : goal.returns
returns c =
    let run = c.machine-machine.ensures.run in
    let asked = c.args.asked.now in
    let end = c.end-end.result in
    let spent = c.in_ok-spent.spent in
    let races = c.races.result.now in
    let endings = c.endings.result.now in
    let spes = c.in_ok-spes.spes.items in
    let missed = bytes_in c.in_ok-missed.missed.items in
    let told = c.in_ok-found.found.races.items in
    let passed = c.as_slice-5.ensures.value in
    let running : c.as_slice-6.result.now ≡ running_from 0 spes = c.as_slice-6.ensures.value ∙ c.in_ok-running.ensures.running ∙ ap (running_from 0) c.as_slice-2.ensures.value in
    let found = c.in_ok-found.ensures.findings ∙ ap (λ keys. race_findings asked.places (bytes_in keys) races) passed in
    subst (λ m. IsReport m asked c.report_by.result) run
    (reported c.machine-machine.result.now asked end spent races endings c.in_ok-warnings.warnings.items spes c.in_ok-left.left.items told c.take_end.new.findings.items
    c.in_ok-found.found.leaves_out missed c.kind.result c.steps_of.result c.in_ok-executed.executed.items c.report_by.result
    (subst (λ m. EndsAs m (Some end)) (sym run) c.end-end.ensures)
    (subst (λ m. AreAllRaces m races) (sym run) c.races.ensures)
    (subst (λ m. AreAllEndings m endings) (sym run) c.endings.ensures)
    (λ M at. subst (λ m. IsSpentBy m (running_from 0 (map ended_in M.spes)) end spent) (sym run)
    (subst (λ here. IsSpentBy c.args.run.now here end spent)
    (c.as_slice-3.ensures.value ∙ c.in_ok-running.ensures.running ∙ ap (running_from 0) (c.as_slice-2.ensures.value ∙ c.in_ok-spes.ensures.ended M at))
    c.in_ok-spent.ensures))
    (subst (λ m. AreWarnings m asked.places asked.warns c.in_ok-warnings.warnings.items) (sym run) c.in_ok-warnings.ensures)
    (λ M at ended. record {
      spes_are = c.in_ok-spes.ensures.ended M at;
      left_is = c.in_ok-left.ensures M at;
      missed_are = c.in_ok-missed.ensures M end at ended
          ∙ ap (λ lines. missed_in (states_of M c.machine-machine.result.now.setup.shows (Some end)) (bytes_in lines)) c.as_slice-4.ensures.value;
      told_are = c.in_ok-found.ensures.told ∙ ap (λ keys. races_told asked.places (bytes_in keys) races) passed;
      findings_are = c.in_ok-take_end.ensures
          ∙ (λ i. (c.in_ok-take_stops.ensures M at ∙ ap (λ xs. xs ++ flat_map (ended_told asked.places M.spes) endings) found) i
          ++ end_told asked.places (running i) end spent (bytes_in (c.as_slice-7.ensures.value i)))
          ∙ append_assoc (race_findings asked.places (bytes_in asked.passed.items) races) (flat_map (ended_told asked.places M.spes) endings) (end_told asked.places (running_from 0 spes) end spent missed);
      leaves_is = c.in_ok-found.ensures.left ∙ ap (λ keys. leaves_out asked.places (bytes_in keys) races) passed;
    })
    (c.kind.ensures ∙ ap kind_of (sym run))
    c.steps_of.ensures
    (c.in_ok-executed.ensures ∙ ap (map number_of) (c.executed.ensures ∙ ap executed_in (sym run)))
    (c.report_by.ensures ∙ (λ i. report_by
    ((c.flaws_by-flaws.ensures ∙ (λ j. flaws_by (c.as_slice-8.ensures.value j) end (has_livelock spent) (c.as_slice-9.ensures.value j) (bytes_in (c.as_slice-10.ensures.value j)))) i)
    ((c.in_ok-ending.ensures ∙ ap (ending_text end) c.as_slice.ensures.value) i)
    c.in_ok-left.left.items told c.take_end.new.findings.items c.in_ok-warnings.warnings.items c.in_ok-found.found.leaves_out missed c.kind.result c.steps_of.result c.in_ok-executed.executed.items)))
