use Rattle.run_permute.proofs.strand.Strand.gather_last.Given as goal

abbrev pub ghost-is_before : goal.ghost-is_before
ghost-is_before g a = g.here

abbrev pub ghost-gather_chain : goal.ghost-gather_chain
ghost-gather_chain g a = g.here
