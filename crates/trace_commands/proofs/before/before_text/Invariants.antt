use Rattle.trace_commands.proofs.before.before_text.Given as goal

abbrev pub ghost-take_all : goal.ghost-take_all
ghost-take_all a = a.machine.now

abbrev pub ghost-put_before : goal.ghost-put_before
ghost-put_before a = a.machine.now
