use Rattle.run_permute.proofs.track.Track.add.Given as goal

abbrev pub ghost-link : goal.ghost-link
ghost-link g a = g.here

abbrev pub ghost-loosen : goal.ghost-loosen
ghost-loosen g a = g.here
