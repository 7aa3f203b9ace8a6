use Rattle.run_permute.proofs.watch.Watch.sweep.Given as goal

abbrev pub ghost-sweep_all : goal.ghost-sweep_all
ghost-sweep_all g a = g.here
