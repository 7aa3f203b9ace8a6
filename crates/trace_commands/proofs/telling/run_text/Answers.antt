use Rattle.std.proofs.Common.{refl, sym, subst}
use Rattle.cell_commands.specs.Runs.{PrintsSteps}
use Rattle.cell_commands.proofs.Runs.{prints_steps}
use Rattle.trace_commands.proofs.telling.run_text.Goals as goal

pub returns : goal.returns
returns c =
    subst (PrintsSteps c.args.machine.now) (sym c.in_ok-extend_from_slice.ensures.items)
    (prints_steps c.args.machine.now _ _ _ c.in-Ok.out.items c.as_slice.result.now c.steps.ensures.steps c.steps.ensures.run
    (record { order = c.steps.ensures.order; lists = c.steps.ensures.lists; locks = c.steps.ensures.locks }) c.steps.ensures.recorded
    c.in-Ok-states_text.ensures.short c.in-Ok.ensures c.in-Ok-states_text.ensures.text refl c.as_slice.ensures.value)
