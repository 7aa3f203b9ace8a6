use Rattle.std.proofs.Common.{arith, ap, length}
use Rattle.cell_base.specs.declared.steps.Actor.TheVariants.{Spu}
use Rattle.cell_machine.specs.Opening.{Opening}
use Rattle.cell_machine.specs.Run.{state_of}
use Rattle.cell_trace.specs.Allowed.{next_steps}
use Rattle.cell_trace.proofs.Lemmas.{of_state}
use Rattle.cell_trace.proofs.NextSteps.{one_actor, no_actor}
use Rattle.cell_trace.proofs.allowed.put_spus.Goals as goal

pub loop-spe-preserved : goal.loop-spe-preserved
loop-spe-preserved c = λ M at.
    let same = ap (λ (S : Opening). length S.entries) c.setup.ensures.setup in
    let count = of_state (state_of c.args.m.now) _ M at c.setup.ensures.count in
    let wrote = of_state (state_of c.args.m.now) _ M at c.in_ok-put_steps.ensures in
    one_actor c.loop-spe.out.items _ _ (next_steps M c.args.m.now.setup.budget) Spu c.loop-spe.spe (length M.spes) (omega (arith, same, count)) wrote (c.loop-spe.invariant M at)

pub returns : goal.returns
returns c = λ M at.
    let same = ap (λ (S : Opening). length S.entries) c.setup.ensures.setup in
    let count = of_state (state_of c.args.m.now) _ M at c.setup.ensures.count in
    no_actor c.loop-spe.out.items _ (next_steps M c.args.m.now.setup.budget) Spu c.loop-spe.spe (length M.spes) (omega (arith, same, count)) (c.loop-spe.invariant M at)
