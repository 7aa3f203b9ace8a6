use Rattle.std.proofs.Common.{[], take}
use Rattle.hunt_reports.specs.Warnings.{AreTold}
use Rattle.hunt_reports.proofs.warnings.warnings_in.Given as goal

abbrev pub invariant-loop-loss : goal.invariant-loop-loss
invariant-loop-loss l = AreTold l.run l.places (take l.loss-index l.losses) [] l.warnings.items

abbrev pub invariant-loop-read : goal.invariant-loop-read
invariant-loop-read l = AreTold l.run l.places l.losses (take l.read-index l.reads) l.warnings.items
