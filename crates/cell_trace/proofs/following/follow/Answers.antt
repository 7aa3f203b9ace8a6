use Rattle.std.proofs.Common.{arith, refl, sym, ◌∙◌, get_or}
use Rattle.cell_base.specs.declared.steps.Step.TheVariants.{Exec}
use Rattle.cell_machine.specs.Run.{next_of}
use Rattle.cell_trace.proofs.Lemmas.{made_of, kept_by, not_allowed, stops, goes_on}
use Rattle.cell_trace.proofs.following.follow.Goals as goal

pub returns-then-is_err : goal.returns-then-is_err
returns-then-is_err c =
    let s = get_or c.args.steps.now c.loop-step.step-index (Exec 0) in
    let failed = sym c.is_err.ensures.value ∙ c.if-is_err.true in
    stops _ c.loop-step.m c.step.new.self c.args.steps.now c.loop-step.step-index s (Exec 0) (omega arith) refl c.loop-step.invariant (kept_by c.step.result _ failed c.step.ensures.err)
    (not_allowed c.step.result (next_of c.loop-step.m s) failed c.step.ensures.allowed.1)

pub loop-step-preserved : goal.loop-step-preserved
loop-step-preserved c =
    let s = get_or c.args.steps.now c.loop-step.step-index (Exec 0) in
    let made = made_of c.step.result _ _ (sym c.is_err.ensures.value ∙ c.if-is_err.false) c.step.ensures.made in
    goes_on _ c.loop-step.m c.step.new.self c.args.steps.now c.loop-step.step-index s (Exec 0) (omega arith) refl c.loop-step.invariant made
