use Rattle.std.proofs.Common.{rules}
use Rattle.trace_commands.proofs.ChoicesLaws.{stays, grows}
use Rattle.trace_commands.proofs.TellLaws.{none_chosen, one_chosen, one_made}
use Rattle.trace_commands.proofs.telling.put_choice.Goals as goal

pub returns-in_default-clause-lines : goal.returns-in_default-clause-lines
returns-in_default-clause-lines c = none_chosen c.args.machine.now c.args.out.now.items

pub returns-in_default-clause-chosen : goal.returns-in_default-clause-chosen
returns-in_default-clause-chosen c = stays c.args.machine.now c.args.number (search rules)

pub returns-in-Ok-clause-lines : goal.returns-in-Ok-clause-lines
returns-in-Ok-clause-lines c = one_chosen c.args.machine.now c.put_effects.new.m c.in-Some.step c.in-Ok.field-0 c.args.out.now.items c.put_effects.new.out.items c.in-Some.ensures.allowed c.in-Ok.ensures.made c.in-Ok.ensures.refused c.in-Ok.ensures.lines

pub returns-in-Ok-clause-chosen : goal.returns-in-Ok-clause-chosen
returns-in-Ok-clause-chosen c =
    let made = one_made c.args.machine.now c.put_effects.new.m c.in-Some.step c.in-Ok.field-0 c.in-Some.ensures.allowed c.in-Ok.ensures.made in
    grows c.args.machine.now c.put_effects.new.m c.args.number c.in-Some.step c.in-Some.ensures.chosen made
