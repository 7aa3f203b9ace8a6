use Rattle.std.proofs.Common.{[], ◌∷◌, ◌++◌, length, arith, sym, ◌∙◌, ap}
use Rattle.std.specs.Prelude.{if◌then◌else◌}
use Rattle.cell_base.specs.declared.steps.Step.TheVariants.{Atomic}
use Rattle.cell_machine.proofs.Places.{mfc-cut, queued_steps}
use Rattle.cell_machine.proofs.processor.Processor.count_of_mfc.Goals as goal

pub returns-then-may_atomic : goal.returns-then-may_atomic
returns-then-may_atomic c = λ spe P shows.
    let rest = c.count_of_queue-count.ensures.count spe P shows in
    let on = sym (c.may_atomic.ensures P shows) ∙ c.if-may_atomic.true in
    let all = ap length (mfc-cut spe P) ∙ ap (λ b. length ((if b then Atomic spe ∷ [] else []) ++ queued_steps spe P)) on in
    omega (arith, rest, all)

pub returns-else-may_atomic : goal.returns-else-may_atomic
returns-else-may_atomic c = λ spe P shows.
    let rest = c.count_of_queue-count.ensures.count spe P shows in
    let off = sym (c.may_atomic.ensures P shows) ∙ c.if-may_atomic.false in
    let all = ap length (mfc-cut spe P) ∙ ap (λ b. length ((if b then Atomic spe ∷ [] else []) ++ queued_steps spe P)) off in
    omega (arith, rest, all)
