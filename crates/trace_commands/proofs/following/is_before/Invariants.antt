use Rattle.trace_commands.proofs.following.is_before.Given as goal

abbrev pub ghost-before : goal.ghost-before
ghost-before g a = g.m
