use Rattle.std.proofs.Common.{refl}
use Rattle.hunt_reports.proofs.Warned.{by_within, lost_within}
use Rattle.hunt_reports.proofs.warnings.lost_of.Goals as goal

pub site-requires : goal.site-requires
site-requires c = lost_within c.args.run.now c.args.loss c.requires

pub site_of-requires : goal.site_of-requires
site_of-requires c = by_within c.args.run.now c.args.loss c.requires

pub returns : goal.returns
returns c = record { kind = refl; lost = c.site.ensures; by = c.site_of.ensures }
