use Rattle.hunt_command.specs.Words.{asked}
use Rattle.hunt_command.proofs.HuntsLaws.{hunt_tells}
use Rattle.hunt_command.proofs.program.tell_runs.Goals as goal

pub returns : goal.returns
returns g c =
    hunt_tells c.args.target.now (asked c.args.hunt.now) _ c.hunt_runs.new.sums c.in_ok-text.text.items c.is_found.result c.in_ok-hunt_runs.ensures c.is_found.ensures c.in_ok-text.ensures
