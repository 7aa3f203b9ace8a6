use Rattle.std.proofs.Common.{refl}
use Rattle.hunt_reports.proofs.Warned.{read_within}
use Rattle.hunt_reports.proofs.warnings.read_of.Goals as goal

pub site-requires : goal.site-requires
site-requires c = read_within c.args.run.now c.args.read c.requires

pub returns : goal.returns
returns c = record { by = c.site.ensures; spe = refl; at = refl }
