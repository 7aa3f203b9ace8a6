use Rattle.run_permute.proofs.chain.end_of.Given as goal

abbrev pub ghost-is_known : goal.ghost-is_known
ghost-is_known g a = g.here

abbrev pub ghost-is_below : goal.ghost-is_below
ghost-is_below g a = g.here

abbrev pub ghost-search_end : goal.ghost-search_end
ghost-search_end g a = g.here
