use Rattle.trace_commands.proofs.before.each_text.Given as goal

abbrev pub ghost-put_each : goal.ghost-put_each
ghost-put_each a = a.machine.now
