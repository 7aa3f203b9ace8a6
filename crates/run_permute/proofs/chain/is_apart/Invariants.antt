use Rattle.run_permute.proofs.chain.is_apart.Given as goal

abbrev pub ghost-is_known : goal.ghost-is_known
ghost-is_known g a = g.here
