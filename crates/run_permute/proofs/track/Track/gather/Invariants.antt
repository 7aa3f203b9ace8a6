use Rattle.run_permute.proofs.track.Track.gather.Given as goal

abbrev pub ghost-gather_chain : goal.ghost-gather_chain
ghost-gather_chain g a = g.here

abbrev pub ghost-gather_blocks : goal.ghost-gather_blocks
ghost-gather_blocks g a = g.here
