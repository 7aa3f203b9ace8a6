use Rattle.run_permute.proofs.chain.gather_chain.Given as goal

abbrev pub ghost-is_apart : goal.ghost-is_apart
ghost-is_apart g a = g.here

abbrev pub ghost-end_of : goal.ghost-end_of
ghost-end_of g a = g.here
