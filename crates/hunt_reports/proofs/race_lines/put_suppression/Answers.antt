use Rattle.hunt_reports.proofs.Lists.{three}
use Rattle.hunt_reports.proofs.race_lines.put_suppression.Goals as goal

pub returns : goal.returns
returns c = three c.args.out.now.items _ _ _ _ _ _ c.in_ok-extend_from_slice.ensures.items c.in_ok-put_both.ensures c.in_ok-push.ensures.items
