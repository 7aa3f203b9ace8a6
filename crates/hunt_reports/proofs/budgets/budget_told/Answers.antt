use Rattle.hunt_reports.proofs.Spending.{progressed}
use Rattle.hunt_reports.proofs.budgets.budget_told.Goals as goal

pub put_progress-requires : goal.put_progress-requires
put_progress-requires c = progressed c.args.spent.now c.requires.progress
