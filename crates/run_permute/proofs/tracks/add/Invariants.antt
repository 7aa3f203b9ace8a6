use Rattle.run_permute.proofs.tracks.add.Given as goal

abbrev pub ghost-add : goal.ghost-add
ghost-add g a = g.here
