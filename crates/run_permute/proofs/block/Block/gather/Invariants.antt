use Rattle.run_permute.proofs.block.Block.gather.Given as goal

abbrev pub ghost-gather_strands : goal.ghost-gather_strands
ghost-gather_strands g a = g.here
