use Rattle.std.proofs.Common.{[], ◌∷◌, sym, subst}
use Rattle.std.specs.Prelude.{Ok, if◌then◌else◌}
use Rattle.cell_base.specs.declared.steps.Step.TheVariants.{Atomic}
use Rattle.mfc_queue.specs.At.{IsAt}
use Rattle.mfc_queue.proofs.AtLemmas.{at-here, at-behind, behind-of}
use Rattle.cell_machine.proofs.Places.{mfc-cut}
use Rattle.cell_machine.proofs.processor.Processor.step_of_mfc.Goals as goal

pub returns-in-Ok : goal.returns-in-Ok
returns-in-Ok c = λ P shows.
    let first = subst (λ b. IsAt c.alone.result c.args.n (if b then Atomic c.args.spe ∷ [] else [])) (c.may_atomic.ensures P shows) c.alone.ensures in
    subst (IsAt (Ok c.in-Ok.step) c.args.n) (sym (mfc-cut c.args.spe P)) (at-here c.alone.result c.args.n _ _ c.in-Ok.step c.in-Ok.is first)

pub returns-in-Err : goal.returns-in-Err
returns-in-Err c = λ P shows.
    let first = subst (λ b. IsAt c.alone.result c.args.n (if b then Atomic c.args.spe ∷ [] else [])) (c.may_atomic.ensures P shows) c.alone.ensures in
    subst (IsAt c.step_of_queue.result c.args.n) (sym (mfc-cut c.args.spe P))
    (at-behind c.step_of_queue.result c.args.n c.in-Err.behind _ _ (behind-of c.alone.result c.args.n c.in-Err.behind _ c.in-Err.is first) (c.step_of_queue.ensures P shows))
