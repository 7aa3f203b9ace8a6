use Rattle.trace_commands.proofs.following.take.Given as goal

abbrev pub ghost-advance : goal.ghost-advance
ghost-advance g a = g.m
