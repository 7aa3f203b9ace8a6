use Rattle.std.proofs.Common.{codes}
use Rattle.hunt_reports.specs.Places.{origin_text}
use Rattle.hunt_reports.proofs.Lists.{on_more}
use Rattle.hunt_reports.proofs.warnings.put_read_key.Goals as goal

pub returns : goal.returns
returns c =
    on_more _ c.args.out.now.items _ _ (codes "unwritten-bytes") (origin_text c.args.places.now c.args.read.by) c.in_ok-extend_from_slice.ensures.items c.put_origin.ensures
