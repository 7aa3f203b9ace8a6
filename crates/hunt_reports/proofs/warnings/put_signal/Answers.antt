use Rattle.std.proofs.Common.{◌++◌, codes}
use Rattle.hunt_reports.specs.Locations.{spu_text}
use Rattle.hunt_reports.specs.Warnings.{register_text, signal_text}
use Rattle.hunt_reports.proofs.Lists.{more, on_more}
use Rattle.hunt_reports.proofs.warnings.put_signal.Goals as goal

pub returns : goal.returns
unfolding signal_text
returns c =
    on_more _ c.args.out.now.items _ _ (register_text c.args.register ++ codes " of " ++ spu_text c.args.spe) (codes " to a value that is never read")
    (more c.args.out.now.items _ _ (register_text c.args.register ++ codes " of ") (spu_text c.args.spe)
    (more c.args.out.now.items _ _ (register_text c.args.register) (codes " of ") c.in_ok-put_register.ensures c.in_ok-extend_from_slice.ensures.items)
    c.in_ok-put_spu.ensures) c.put_unread.ensures
