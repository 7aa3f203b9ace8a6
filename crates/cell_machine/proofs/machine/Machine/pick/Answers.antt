use Rattle.std.proofs.Common.{length, arith, ap, sym, subst}
use Rattle.std.specs.Prelude.{IsSomeAnd}
use Rattle.cell_machine.specs.Actors.{MissesNone}
use Rattle.cell_machine.specs.Run.{Ran}
use Rattle.cell_machine.proofs.AnyStep.{machine-replayed, picked-is, pick-allowed}
use Rattle.cell_machine.proofs.MissesNone.{misses_none}
use Rattle.cell_machine.proofs.Replays.{machine-kept}
use Rattle.cell_machine.proofs.machine.Machine.pick.Goals as goal

pub returns-clause-allowed : goal.returns-clause-allowed
returns-clause-allowed c =
    pick-allowed _ c.args.self.now c.self.invariant.0.state c.args.actor c.args.choice (machine-replayed _ _ _ _ _ c.self.invariant.0 c.self.view_is)
    (let e = ap (λ (n : Ran). n.setup.budget) c.self.view_is in let l = ap (λ (n : Ran). length n.steps) c.self.view_is in omega arith)
    (c.nth_step.ensures c.self.inside.memory c.self.invariant.0.state (rw c.deref.ensures.value c.self.invariant.0.shown))

pub returns-clause-picked : goal.returns-clause-picked
returns-clause-picked c =
    picked-is _ c.args.self.now c.self.invariant.0.state c.args.actor c.args.choice (machine-replayed _ _ _ _ _ c.self.invariant.0 c.self.view_is)
    (let e = ap (λ (n : Ran). n.setup.budget) c.self.view_is in let l = ap (λ (n : Ran). length n.steps) c.self.view_is in omega arith)
    (c.nth_step.ensures c.self.inside.memory c.self.invariant.0.state (rw c.deref.ensures.value c.self.invariant.0.shown))

pub nth_step-requires : goal.nth_step-requires
nth_step-requires c = rw c.deref.ensures.value (machine-kept c.self.invariant.0)

pub returns-clause-complete : goal.returns-clause-complete
returns-clause-complete c = subst (λ o. IsSomeAnd o MissesNone) (sym (machine-replayed _ _ _ _ _ c.self.invariant.0 c.self.view_is)) (misses_none c.self.inside.processors.items c.self.invariant.0.state c.self.invariant.0.shown)

pub returns-then-len-budget-clause-complete : goal.returns-then-len-budget-clause-complete
returns-then-len-budget-clause-complete c = subst (λ o. IsSomeAnd o MissesNone) (sym (machine-replayed _ _ _ _ _ c.self.invariant.0 c.self.view_is)) (misses_none c.self.inside.processors.items c.self.invariant.0.state c.self.invariant.0.shown)
