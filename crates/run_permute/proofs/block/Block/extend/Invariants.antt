use Rattle.run_permute.proofs.block.Block.extend.Given as goal

abbrev pub ghost-extend_at : goal.ghost-extend_at
ghost-extend_at g a = g.here
