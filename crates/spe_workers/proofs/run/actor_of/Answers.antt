use Rattle.std.proofs.Common.{arith, ◌-◌}
use Rattle.spe_workers.proofs.Seating.{mfc_at}
use Rattle.spe_workers.proofs.run.actor_of.Goals as goal

pub returns-then-number-spes-2 : goal.returns-then-number-spes-2
returns-then-number-spes-2 c =
    let e = c.from-spes.ensures in
    mfc_at c.args.spes c.args.number (c.args.number - c.from-spes.result) (omega arith) (omega arith)
