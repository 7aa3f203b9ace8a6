use Rattle.std.proofs.Common.{◌∙◌, sym}
use Rattle.cell_trace.specs.Logs.{log_between}
use Rattle.trace_commands.proofs.TellLaws.{stops_of, none_is, all_refused, lines_told}
use Rattle.trace_commands.proofs.telling.log_text.Goals as goal

pub returns-then-is_some : goal.returns-then-is_some
returns-then-is_some c =
    let k = stops_of c.args.machine.now c.put_log.new.m c.args.steps.now c.in-Ok.refused c.in-Ok.ensures.made (sym c.is_some.ensures ∙ c.if-is_some.true) in
    all_refused c.args.machine.now c.put_log.new.m c.args.steps.now k.0 c.not_allowed.result c.requires k.1 c.not_allowed.ensures.run c.not_allowed.ensures.told

pub returns : goal.returns
returns c =
    lines_told log_between c.args.machine.now c.args.steps.now _ c.put_log.new.out.items c.requires c.new-out.ensures.items c.in-Ok.ensures.lines (sym (none_is c.in-Ok.refused (sym c.is_some.ensures ∙ c.if-is_some.false)) ∙ c.in-Ok.ensures.refused)
