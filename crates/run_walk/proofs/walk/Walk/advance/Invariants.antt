use Rattle.run_walk.proofs.walk.Walk.advance.Given as goal

abbrev pub ghost-advance : goal.ghost-advance
ghost-advance g a = g.m
