use Rattle.std.proofs.Common.{length, arith, ap, subst, sym}
use Rattle.cell_machine.specs.Run.{Ran}
use Rattle.cell_machine.specs.Shows.{ShowsSpe}
use Rattle.cell_machine.proofs.AllTwo.{two_at}
use Rattle.cell_machine.proofs.AnyStep.{machine-replayed}
use Rattle.cell_machine.proofs.Reaching.{has-reach, reach-is, reach-spent}
use Rattle.cell_machine.proofs.machine.Machine.reach.Goals as goal

pub returns-then-len-budget-clause-reach : goal.returns-then-len-budget-clause-reach
returns-then-len-budget-clause-reach c =
    reach-spent c.args.self.now c.args.spe (let e = ap (λ (n : Ran). n.setup.budget) c.self.view_is in let l = ap (λ (n : Ran). length n.steps) c.self.view_is in omega arith)

pub returns-clause-reach : goal.returns-clause-reach
returns-clause-reach c =
    let two = two_at ShowsSpe c.self.inside.processors.items c.self.invariant.0.state.spes c.args.spe c.index.result.now c.self.invariant.0.shown.spes
    (let e = ap (λ (n : Ran). length n.setup.entries) c.self.view_is in omega arith) in
    let shows : ShowsSpe c.index.result.now two.0 = subst (λ y. ShowsSpe y two.0) (sym c.index.ensures) two.2 in
    reach-is c.args.self.now c.self.invariant.0.state c.args.spe two.0 c.reach.result (machine-replayed _ _ _ _ _ c.self.invariant.0 c.self.view_is) two.1
    (let e = ap (λ (n : Ran). n.setup.budget) c.self.view_is in let l = ap (λ (n : Ran). length n.steps) c.self.view_is in omega arith)
    (c.reach.ensures.reach two.0 shows)

pub returns-clause-has : goal.returns-clause-has
returns-clause-has c =
    let two = two_at ShowsSpe c.self.inside.processors.items c.self.invariant.0.state.spes c.args.spe c.index.result.now c.self.invariant.0.shown.spes
    (let e = ap (λ (n : Ran). length n.setup.entries) c.self.view_is in omega arith) in
    let shows : ShowsSpe c.index.result.now two.0 = subst (λ y. ShowsSpe y two.0) (sym c.index.ensures) two.2 in
    has-reach c.args.self.now c.self.invariant.0.state c.args.spe two.0 c.reach.result (machine-replayed _ _ _ _ _ c.self.invariant.0 c.self.view_is) two.1
    (let e = ap (λ (n : Ran). n.setup.budget) c.self.view_is in let l = ap (λ (n : Ran). length n.steps) c.self.view_is in omega arith)
    (c.reach.ensures.reach two.0 shows) (λ i some. c.reach.ensures.row two.0 i shows some)
