use Rattle.run_trace.proofs.timing.time_ordered.Given as goal

abbrev pub ghost-take_all : goal.ghost-take_all
ghost-take_all a = a.machine.now
