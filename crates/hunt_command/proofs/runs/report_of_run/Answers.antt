use Rattle.hunt_reports.specs.Reports.{IsReport}
use Rattle.hunt_command.specs.Hunts.{IsReportOfSeed}
use Rattle.hunt_command.proofs.HuntsLaws.{if_ok}
use Rattle.hunt_command.proofs.runs.report_of_run.Goals as goal

pub returns-in-Ok : goal.returns-in-Ok
returns-in-Ok c =
    let q = c.args.target.now in
    if_ok (IsReport c.in-Ok.made q.asked) (IsReportOfSeed q.setup q.asked c.args.seed c.args.run) c.report_of.result
    (λ r is. record { machine = c.in-Ok.made; made = c.in-Ok.ensures.run; only = c.in-Ok.ensures.only; told = is }) c.report_of.ensures
