use Rattle.trace_commands.proofs.before.put_before.Given as goal

abbrev pub ghost-marks_of : goal.ghost-marks_of
ghost-marks_of g a = g.m
