use Rattle.run_permute.proofs.track.Track.link.Given as goal

abbrev pub ghost-close_blocks : goal.ghost-close_blocks
ghost-close_blocks g a = g.here
