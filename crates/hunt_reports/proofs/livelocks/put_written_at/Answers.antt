use Rattle.std.proofs.Common.{◌++◌, codes}
use Rattle.hunt_reports.proofs.Lists.{more, on_more}
use Rattle.hunt_reports.specs.Livelocks.{written_at}
use Rattle.hunt_reports.specs.Locations.{short_shown, spu_text}
use Rattle.hunt_reports.proofs.livelocks.put_written_at.Goals as goal

pub returns : goal.returns
unfolding written_at
returns c =
    on_more _ c.args.out.now.items _ _ (codes "last written at " ++ short_shown c.args.places.now c.args.location ++ codes " by ") (spu_text c.args.location.spe)
    (more c.args.out.now.items _ _ (codes "last written at " ++ short_shown c.args.places.now c.args.location) (codes " by ")
    (more c.args.out.now.items _ _ (codes "last written at ") (short_shown c.args.places.now c.args.location) c.in_ok-extend_from_slice.ensures.items c.in_ok-put_short.ensures)
    c.in_ok-extend_from_slice-2.ensures.items) c.put_spu.ensures
