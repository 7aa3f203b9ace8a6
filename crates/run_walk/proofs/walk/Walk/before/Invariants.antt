use Rattle.run_walk.proofs.walk.Walk.before.Given as goal

abbrev pub ghost-before : goal.ghost-before
ghost-before g a = g.m
