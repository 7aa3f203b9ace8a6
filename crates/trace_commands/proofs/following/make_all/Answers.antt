use Rattle.std.proofs.Common.{◌∙◌, sym}
use Rattle.trace_commands.proofs.StepsLaws.{refuses_rest}
use Rattle.trace_commands.proofs.TellLaws.{stops_of, none_is, made_of}
use Rattle.trace_commands.proofs.following.make_all.Goals as goal

pub returns-then-is_some-clause-refused : goal.returns-then-is_some-clause-refused
returns-then-is_some-clause-refused c =
    let k = stops_of c.args.machine.now c.follow.new.m c.args.steps.now c.follow.result c.follow.ensures (sym c.is_some.ensures ∙ c.if-is_some.true) in
    refuses_rest c.args.machine.now c.follow.new.m c.args.steps.now k.0 c.not_allowed.result k.1 c.not_allowed.ensures.run c.not_allowed.ensures.told

pub returns-clause-made : goal.returns-clause-made
returns-clause-made c = made_of c.args.machine.now c.follow.new.m c.args.steps.now c.follow.result c.follow.ensures (none_is c.follow.result (sym c.is_some.ensures ∙ c.if-is_some.false))
