use Rattle.std.proofs.Common.{◌++◌, ◌-◌, codes}
use Rattle.std.specs.Fmt.{decimal}
use Rattle.hunt_reports.proofs.Lists.{more}
use Rattle.cell_base.specs.Records.{line_feed}
use Rattle.hunt_reports.specs.Budgets.{progress_line}
use Rattle.hunt_reports.proofs.budgets.put_progress.Goals as goal

pub returns : goal.returns
unfolding progress_line
returns c =
    more c.args.out.now.items _ _ (codes "  still progressing: the last change is step " ++ decimal (c.args.spent.now.last_change - 1) ++ codes " of " ++ decimal c.args.spent.now.budget) line_feed
    (more c.args.out.now.items _ _ (codes "  still progressing: the last change is step " ++ decimal (c.args.spent.now.last_change - 1) ++ codes " of ") (decimal c.args.spent.now.budget)
    (more c.args.out.now.items _ _ (codes "  still progressing: the last change is step " ++ decimal (c.args.spent.now.last_change - 1)) (codes " of ")
    c.in_ok-put_numbered.ensures c.in_ok-extend_from_slice.ensures.items) c.in_ok-put_decimal.ensures) c.in_ok-push.ensures.items
