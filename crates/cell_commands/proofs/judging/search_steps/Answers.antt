use Rattle.std.proofs.Common.{length, get_or, sym, ap, ◌∙◌, subst, true≢false}
use Rattle.std.specs.Prelude.{IsSome}
use Rattle.cell_base.specs.declared.steps.Step.TheVariants.{Exec}
use Rattle.cell_machine.specs.Run.{Ran, IsRun, next_of}
use Rattle.race_check.specs.Searches.{run_of}
use Rattle.cell_commands.proofs.Fronts.{front-refused}
use Rattle.cell_commands.proofs.judging.search_steps.Goals as goal

pub returns-in_default-clause-refused : goal.returns-in_default-clause-refused
returns-in_default-clause-refused c =
    let i = c.loop-step.step-index in
    let step = get_or c.args.steps.now i (Exec 0) in
    let run = subst (λ (r : Ran). IsRun r.setup r.steps) c.machine.ensures c.steps.ensures.run in
    front-refused (run_of c.args.search.now).setup c.args.steps.now i (run_of c.loop-step.search) (Exec 0) (length c.steps.result.now) c.loop-step.invariant.made run c.loop-step-test.true
    (λ some. true≢false (sym (subst IsSome c.in_default.is (c.effect.ensures.allowed.1 (subst (λ r. IsSome (next_of r step)) (sym c.machine-in-loop-step.ensures) some)))))
    (ap length (c.steps.ensures.steps ∙ ap (λ (r : Ran). r.steps) c.machine.ensures))
