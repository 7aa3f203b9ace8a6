use Rattle.std.proofs.Common.{◌∙◌}
use Rattle.cell_commands.proofs.Puts.{took_part}
use Rattle.cell_commands.proofs.Verdicts.{names-steps, wrote_part}
use Rattle.cell_commands.proofs.check.put_verdict.Goals as goal

pub verdict_text-requires : goal.verdict_text-requires
verdict_text-requires g c = names-steps c.args.machine.now c.args.verdict c.requires.verdict

pub returns-clause-ends : goal.returns-clause-ends
returns-clause-ends g c = (
  c.in-Err.ensures.cause.1,
  wrote_part c.args.machine.now c.args.verdict c.as_slice.result.now _ _ c.requires.verdict c.requires.agree (c.as_slice.ensures.value ∙ c.in-Ok.ensures)
      (took_part _ _ _ _ c.in-Err.field-0 c.in-Err.ensures.takes),
)
