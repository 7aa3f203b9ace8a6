use Rattle.run_permute.proofs.strand.Strand.close.Given as goal

abbrev pub ghost-is_behind : goal.ghost-is_behind
ghost-is_behind g a = g.here
