use Rattle.race_order.specs.Told.{trace_in}
use Rattle.race_order.proofs.orderer.Orderer.advance.Given as goal

abbrev pub ghost-take : goal.ghost-take
ghost-take g a = trace_in g.m
