use Rattle.std.proofs.Common.{◌∙◌}
use Rattle.std.proofs.lemmas.Result.{err_from_is_err_and}
use Rattle.cell_commands.specs.Forms.{planned_task}
use Rattle.cell_commands.proofs.Steps.{comes_then}
use Rattle.cell_commands.proofs.reading.read_setup.Goals as goal

pub returns-in_err-plan-clause-comes : goal.returns-in_err-plan-clause-comes
returns-in_err-plan-clause-comes g c = λ told is next.
    let p = err_from_is_err_and c.from_residual.result c.from_residual.ensures.1 in
    rw (p.1, p.2) (c.in_err-plan.ensures.comes told is (λ entries. planned_task entries next))

pub returns-clause-comes : goal.returns-clause-comes
returns-clause-comes g c = λ told is next.
    comes_then told _ _ next _ _ _ _ (c.in_ok-plan.ensures.comes told is (λ entries. planned_task entries next)) c.in_ok-plan.ensures.kept
    (c.load_plan.ensures.comes told (c.read_plan.ensures.same ∙ is) next)
