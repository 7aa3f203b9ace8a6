use Rattle.std.proofs.Common.{◌≡◌, ◌+◌, ◌-◌, sym, subst, arith}
use Rattle.hunt_command.specs.Hunts.{HasTaken}
use Rattle.hunt_command.proofs.HuntsLaws.{has_more, taken_runs}
use Rattle.hunt_command.proofs.parts.take_part.Goals as goal
use Rattle.hunt_command.proofs.parts.take_part.Goals.{In_ok-take_runs}

-- the runs before the part were taken in
before : (c : In_ok-take_runs) → HasTaken c.args.target.now c.args.seed c.args.from c.args.part.first c.take_runs.new.sums
before c =
    let behind = c.if-first-made.false in
    let same : c.args.made + (c.args.part.first - c.args.made) ≡ c.args.part.first = omega (arith, behind) in
    subst (λ n. HasTaken c.args.target.now c.args.seed c.args.from n c.take_runs.new.sums) same c.in_ok-take_runs.ensures

pub join-requires : goal.join-requires
join-requires c =
    let o = (goal.at.join-requires c).In_ok-take_runs in
    let runs = taken_runs c.args.target.now c.args.seed c.args.from c.args.part.first c.take_runs.new.sums (before o) in
    omega (arith, runs, c.requires.room)

pub returns-clause-taken : goal.returns-clause-taken
returns-clause-taken c =
    let o = (goal.at.returns-clause-taken c).In_ok-take_runs in
    let part = c.args.part in
    subst (λ n. HasTaken c.args.target.now c.args.seed c.args.from (part.first + n) c.join.new.self) (sym c.runs-count.ensures)
    (has_more c.args.target.now c.args.seed c.args.from part.first part.sums.runs c.take_runs.new.sums part.sums c.join.new.self (before o) c.requires.behind c.in_ok-join.ensures.joined)
