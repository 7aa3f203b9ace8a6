use Rattle.run_permute.proofs.chain.is_known.Given as goal

abbrev pub ghost-is_before : goal.ghost-is_before
ghost-is_before g a = g.here
