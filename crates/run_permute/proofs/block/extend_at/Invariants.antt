use Rattle.run_permute.proofs.block.extend_at.Given as goal

abbrev pub ghost-extend : goal.ghost-extend
ghost-extend g a = g.here
