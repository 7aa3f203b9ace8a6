use Rattle.run_permute.proofs.block.Block.may_extend.Given as goal

abbrev pub ghost-may_extend : goal.ghost-may_extend
ghost-may_extend g a = g.here
