use Rattle.run_permute.proofs.kept.Kept.sweep.Given as goal

abbrev pub ghost-unknown : goal.ghost-unknown
ghost-unknown g a = g.here
