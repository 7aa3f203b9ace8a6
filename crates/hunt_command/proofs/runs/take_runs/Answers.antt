use Rattle.std.proofs.Common.{arith}
use Rattle.hunt_command.proofs.HuntsLaws.{has_next, taken_runs}
use Rattle.hunt_command.proofs.runs.take_runs.Goals as goal

pub take-requires : goal.take-requires
take-requires c =
    let runs = taken_runs c.args.target.now c.args.seed c.args.from c.loop-run.run c.loop-run.sums c.loop-run.invariant in
    omega (arith, runs, c.requires.room)

pub loop-run-preserved : goal.loop-run-preserved
loop-run-preserved c =
    has_next c.args.target.now c.args.seed c.args.from c.loop-run.run c.loop-run.sums c.take.new.self c.in_ok-report_of_run.field-0 c.loop-run.invariant c.in_ok-report_of_run.ensures c.in_ok-take.ensures
