use Rattle.std.proofs.Common.{arith, ap, length}
use Rattle.cell_machine.specs.Opening.{Opening}
use Rattle.cell_machine.specs.Run.{state_of}
use Rattle.cell_trace.proofs.Lemmas.{of_state, got_within}
use Rattle.cell_trace.proofs.NextSteps.{ats_one, ats_none}
use Rattle.cell_trace.proofs.allowed.put_ats.Goals as goal

pub loop-spe-preserved : goal.loop-spe-preserved
loop-spe-preserved c = λ M at.
    let same = ap (λ (S : Opening). length S.entries) c.setup.ensures.setup in
    let count = of_state (state_of c.args.m.now) _ M at c.setup.ensures.count in
    let here = got_within M.spes c.loop-spe.spe (omega (arith, same, count)) in
    rw (c.in_ok-put_at.ensures M here.0 at here.1)
    (ats_one c.loop-spe.out.items _ c.loop-spe.spe c.loop-spe.spe here.0 M.spes here.1 (c.loop-spe.invariant M at))

pub returns : goal.returns
returns c = λ M at.
    let same = ap (λ (S : Opening). length S.entries) c.setup.ensures.setup in
    let count = of_state (state_of c.args.m.now) _ M at c.setup.ensures.count in
    ats_none c.loop-spe.out.items _ c.loop-spe.spe c.loop-spe.spe M.spes (omega (arith, same, count)) (c.loop-spe.invariant M at)
