use Rattle.run_permute.proofs.watch.Watch.look.Given as goal

abbrev pub ghost-sweep : goal.ghost-sweep
ghost-sweep g a = g.here
