use Rattle.std.proofs.Common.{◌++◌, codes}
use Rattle.std.specs.Fmt.{decimal}
use Rattle.hunt_reports.proofs.Lists.{more, on_more}
use Rattle.hunt_reports.specs.Livelocks.{after_text}
use Rattle.hunt_reports.proofs.livelocks.put_after.Goals as goal

pub returns : goal.returns
unfolding after_text
returns c =
    on_more _ c.args.out.now.items _ _ (codes "  no progress after step " ++ decimal c.args.step ++ codes " of ") (decimal c.args.budget)
    (more c.args.out.now.items _ _ (codes "  no progress after step " ++ decimal c.args.step) (codes " of ") c.in_ok-put_numbered.ensures c.in_ok-extend_from_slice.ensures.items) c.put_decimal.ensures
