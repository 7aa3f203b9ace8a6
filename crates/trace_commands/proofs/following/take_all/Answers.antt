use Rattle.std.proofs.Common.{arith, refl, get_or}
use Rattle.std.proofs.lemmas.Result.{err_from_is_err_and}
use Rattle.cell_base.specs.declared.steps.Step.TheVariants.{Exec}
use Rattle.trace_commands.proofs.StepsLaws.{next_refused}
use Rattle.trace_commands.proofs.following.take_all.Goals as goal

pub returns-in_err-take-clause-refused : goal.returns-in_err-take-clause-refused
returns-in_err-take-clause-refused g c =
    let p = err_from_is_err_and c.from_residual.result c.from_residual.ensures.1 in
    rw (p.1, p.2) (next_refused _ c.loop-step.machine c.args.steps.now c.loop-step.step-index (get_or c.args.steps.now c.loop-step.step-index (Exec 0)) (Exec 0) c.in_err-take.field-0.0 (omega arith) refl c.loop-step.invariant.made c.in_err-take.ensures.refused)
