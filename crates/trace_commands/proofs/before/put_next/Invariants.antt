use Rattle.trace_commands.proofs.before.put_next.Given as goal

abbrev pub ghost-take : goal.ghost-take
ghost-take g a = g.m

abbrev pub ghost-put_before : goal.ghost-put_before
ghost-put_before g a = a.machine.now
