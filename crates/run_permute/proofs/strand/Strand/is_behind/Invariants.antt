use Rattle.run_permute.proofs.strand.Strand.is_behind.Given as goal

abbrev pub ghost-is_before : goal.ghost-is_before
ghost-is_before g a = g.here
