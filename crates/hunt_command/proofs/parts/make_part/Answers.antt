use Rattle.std.proofs.Common.{◌≡◌, ◌+◌, subst, arith}
use Rattle.hunt_command.specs.Hunts.{HasTaken}
use Rattle.hunt_command.proofs.HuntsLaws.{has_none, part_of}
use Rattle.hunt_command.proofs.parts.make_part.Goals as goal

pub take_runs-requires-clause-taken : goal.take_runs-requires-clause-taken
take_runs-requires-clause-taken c = has_none c.args.target.now c.args.seed _ c.new-sums.result c.new-sums.ensures

pub returns : goal.returns
returns c =
    let runs = c.args.runs in
    part_of c.args.target.now c.args.seed c.args.from runs.count (record { first = runs.first; sums = c.take_runs.new.sums })
    (subst (λ n. HasTaken c.args.target.now c.args.seed (c.args.from + runs.first) n c.take_runs.new.sums) (let same : 0 + runs.count ≡ runs.count = omega arith in same) c.in_ok-take_runs.ensures)
