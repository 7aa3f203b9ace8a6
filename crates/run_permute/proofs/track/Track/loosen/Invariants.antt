use Rattle.run_permute.proofs.track.Track.loosen.Given as goal

abbrev pub ghost-may_extend : goal.ghost-may_extend
ghost-may_extend g a = g.here

abbrev pub ghost-extend_at : goal.ghost-extend_at
ghost-extend_at g a = g.here
