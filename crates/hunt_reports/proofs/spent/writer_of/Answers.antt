use Rattle.hunt_reports.proofs.spent.writer_of.Goals as goal

pub site-requires : goal.site-requires
site-requires c = rw c.in-Some.is at c.requires

pub returns-in-Some : goal.returns-in-Some
returns-in-Some c = rw c.in-Some.is c.site.ensures

pub returns-in-None : goal.returns-in-None
returns-in-None c = rw c.in-None.is tt
