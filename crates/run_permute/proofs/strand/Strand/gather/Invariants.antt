use Rattle.run_permute.proofs.strand.Strand.gather.Given as goal

abbrev pub ghost-gather_last : goal.ghost-gather_last
ghost-gather_last g a = g.here
