use Rattle.run_permute.proofs.block.Block.close.Given as goal

abbrev pub ghost-close_all : goal.ghost-close_all
ghost-close_all g a = g.here
