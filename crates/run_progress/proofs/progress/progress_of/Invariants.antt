use Rattle.run_progress.proofs.progress.progress_of.Given as goal

abbrev pub ghost-progress : goal.ghost-progress
ghost-progress a = a.machine.now
