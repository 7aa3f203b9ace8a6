use Rattle.std.proofs.Common.{◌∙◌}
use Rattle.std.proofs.lemmas.Result.{err_from_is_err_and}
use Rattle.cell_commands.specs.Forms.{planned_task}
use Rattle.cell_commands.proofs.Steps.{comes_then}
use Rattle.hunt_command.proofs.SourceLaws.{has_places}
use Rattle.hunt_command.proofs.sources.read_places.Goals as goal

pub returns-in_err-planned-clause-comes : goal.returns-in_err-planned-clause-comes
returns-in_err-planned-clause-comes g c = λ told is next.
    let p = err_from_is_err_and c.from_residual.result c.from_residual.ensures.1 in
    rw (p.1, p.2) (c.in_err-planned.ensures.comes told is (λ entries. planned_task entries next))

pub returns-clause-comes : goal.returns-clause-comes
returns-clause-comes g c = λ told is next.
    comes_then told _ _ (λ m. next m.0) _ _ _ _ (c.in_ok-planned.ensures.comes told is (λ entries. planned_task entries next)) c.in_ok-planned.ensures.kept
    (c.load_sources.ensures.comes told (c.read_plan.ensures.same ∙ is) next)

pub returns-clause-places : goal.returns-clause-places
returns-clause-places g c = λ told is.
    has_places told c.args.name.now _ _ _ (c.in_ok-planned.ensures.read told is) (c.load_sources.ensures.places told (c.read_plan.ensures.same ∙ is))
