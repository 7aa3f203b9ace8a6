use Rattle.race_order.specs.Told.{trace_in}
use Rattle.race_order.proofs.orderer.Orderer.before.Given as goal

abbrev pub ghost-is_before : goal.ghost-is_before
ghost-is_before g a = trace_in g.m
