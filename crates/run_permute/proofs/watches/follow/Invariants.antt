use Rattle.run_permute.proofs.watches.follow.Given as goal

abbrev pub ghost-execute : goal.ghost-execute
ghost-execute g a = g.m

abbrev pub ghost-transfer : goal.ghost-transfer
ghost-transfer g a = g.m
