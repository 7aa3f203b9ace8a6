use Rattle.std.proofs.Common.{ap, length}
use Rattle.trace_commands.proofs.TellLaws.{line_added}
use Rattle.trace_commands.proofs.before.put_next.Goals as goal

pub returns-clause-line : goal.returns-clause-line
returns-clause-line g c =
    line_added c.args.machine.now c.take.new.machine c.args.step (length c.steps.result.now) c.args.out.now.items _ _ _ c.in_ok-take.ensures.made (ap length c.steps.ensures.steps) c.in_ok-put_decimal.ensures c.in_ok-put_before.ensures c.in_ok-extend_from_slice.ensures.items
