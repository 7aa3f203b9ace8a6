use Rattle.cell_commands.proofs.Puts.{took, took_part}
use Rattle.cell_commands.proofs.Verdicts.{names-steps}
use Rattle.cell_commands.proofs.Summaries.{summarizes_own, ends_summary, wrote_summary_part}
use Rattle.cell_commands.proofs.generated.write_summary.Goals as goal

pub summary_text-requires : goal.summary_text-requires
summary_text-requires g c = names-steps c.args.machine.now c.in-Ok.verdict c.in-Ok.ensures.verdict

pub returns-in-Ok-put-clause-ends : goal.returns-in-Ok-put-clause-ends
returns-in-Ok-put-clause-ends g c =
    let is = summarizes_own c.args.n c.in-Ok.verdict _ c.as_slice.result.now c.args.machine.now c.as_slice.ensures.value c.requires.setup (record {
      run = c.steps-run.ensures.run;
      laws = record { order = c.steps-run.ensures.order; lists = c.steps-run.ensures.lists; locks = c.steps-run.ensures.locks };
      ended = c.requires.ended;
      verdict = c.in-Ok.ensures.verdict;
      agree = c.in-Ok.ensures.agree;
      says = c.in-Ok-summary_text.ensures;
    }) in
    rw c.from.ensures (ends_summary c.args.n c.in-Ok.verdict c.as_slice.result.now _ _ is (took _ _ _ _ c.in-Ok-put.field-0 c.in-Ok-put.ensures.takes))

pub returns-clause-ends : goal.returns-clause-ends
returns-clause-ends g c =
    let is = summarizes_own c.args.n c.in-Ok.verdict _ c.as_slice.result.now c.args.machine.now c.as_slice.ensures.value c.requires.setup (record {
      run = c.steps-run.ensures.run;
      laws = record { order = c.steps-run.ensures.order; lists = c.steps-run.ensures.lists; locks = c.steps-run.ensures.locks };
      ended = c.requires.ended;
      verdict = c.in-Ok.ensures.verdict;
      agree = c.in-Ok.ensures.agree;
      says = c.in-Ok-summary_text.ensures;
    }) in (
      c.in-Err.ensures.cause.1,
      wrote_summary_part c.args.n c.in-Ok.verdict c.as_slice.result.now _ _ is (took_part _ _ _ _ c.in-Err.field-0 c.in-Err.ensures.takes),
    )
