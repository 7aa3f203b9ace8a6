use Rattle.std.proofs.Common.{◌++◌}
use Rattle.cell_commands.specs.declared.fault.Status.TheVariants.{Done}
use Rattle.cell_commands.proofs.Puts.{took, took_part}
use Rattle.cell_commands.proofs.Runs.{prints_steps}
use Rattle.cell_commands.proofs.run.write_run.Goals as goal

pub returns-in-Ok-put_both-clause-ends : goal.returns-in-Ok-put_both-clause-ends
returns-in-Ok-put_both-clause-ends g c = λ work writes. (
  c.as_slice.result.now ++ c.as_slice-2.result.now,
  writes _ (prints_steps c.args.machine.now _ _ _ _ _ c.steps.ensures.steps c.steps.ensures.run
      (record { order = c.steps.ensures.order; lists = c.steps.ensures.lists; locks = c.steps.ensures.locks }) c.steps.ensures.recorded
      c.in-Ok-states_text.ensures.short c.in-Ok.ensures c.in-Ok-states_text.ensures.text c.as_slice.ensures.value c.as_slice-2.ensures.value),
  took _ _ _ _ c.in-Ok-put_both.field-0 c.in-Ok-put_both.ensures.takes,
)

pub returns-clause-ends : goal.returns-clause-ends
returns-clause-ends g c = λ work writes. (
  c.in-Err.ensures.cause.1,
  (
    Done,
    c.as_slice.result.now ++ c.as_slice-2.result.now,
    writes _ (prints_steps c.args.machine.now _ _ _ _ _ c.steps.ensures.steps c.steps.ensures.run
        (record { order = c.steps.ensures.order; lists = c.steps.ensures.lists; locks = c.steps.ensures.locks }) c.steps.ensures.recorded
        c.in-Ok-states_text.ensures.short c.in-Ok.ensures c.in-Ok-states_text.ensures.text c.as_slice.ensures.value c.as_slice-2.ensures.value),
    took_part _ _ _ _ c.in-Err.field-0 c.in-Err.ensures.takes,
  ),
)

pub returns-in-Ok-put_both-clause-wrote : goal.returns-in-Ok-put_both-clause-wrote
returns-in-Ok-put_both-clause-wrote g c = (
  c.as_slice.result.now ++ c.as_slice-2.result.now,
  prints_steps c.args.machine.now _ _ _ _ _ c.steps.ensures.steps c.steps.ensures.run
      (record { order = c.steps.ensures.order; lists = c.steps.ensures.lists; locks = c.steps.ensures.locks }) c.steps.ensures.recorded
      c.in-Ok-states_text.ensures.short c.in-Ok.ensures c.in-Ok-states_text.ensures.text c.as_slice.ensures.value c.as_slice-2.ensures.value,
  took _ _ _ _ c.in-Ok-put_both.field-0 c.in-Ok-put_both.ensures.takes,
)

pub returns-clause-wrote : goal.returns-clause-wrote
returns-clause-wrote g c = (
  c.in-Err.ensures.cause.1,
  (
    c.as_slice.result.now ++ c.as_slice-2.result.now,
    prints_steps c.args.machine.now _ _ _ _ _ c.steps.ensures.steps c.steps.ensures.run
        (record { order = c.steps.ensures.order; lists = c.steps.ensures.lists; locks = c.steps.ensures.locks }) c.steps.ensures.recorded
        c.in-Ok-states_text.ensures.short c.in-Ok.ensures c.in-Ok-states_text.ensures.text c.as_slice.ensures.value c.as_slice-2.ensures.value,
    took_part _ _ _ _ c.in-Err.field-0 c.in-Err.ensures.takes,
  ),
)
