use Rattle.std.proofs.Common.{refl}
use Rattle.hunt_reports.proofs.spent.polled_of.Goals as goal

pub writer_of-requires : goal.writer_of-requires
writer_of-requires c = rw c.in-Some.is at c.requires

pub returns-in-Some : goal.returns-in-Some
returns-in-Some c = rw c.in-Some.is (record { at = refl; len = refl; writer = c.writer_of.ensures })

pub returns-in-None : goal.returns-in-None
returns-in-None c = rw c.in-None.is tt
