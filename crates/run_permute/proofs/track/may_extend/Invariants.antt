use Rattle.run_permute.proofs.track.may_extend.Given as goal

abbrev pub ghost-may_extend : goal.ghost-may_extend
ghost-may_extend g a = g.here
