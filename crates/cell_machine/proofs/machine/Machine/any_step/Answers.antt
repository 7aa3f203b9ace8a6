use Rattle.std.proofs.Common.{length, arith, ap}
use Rattle.cell_machine.specs.Run.{Ran}
use Rattle.cell_machine.proofs.AnyStep.{machine-replayed, any-allowed, any-none}
use Rattle.cell_machine.proofs.Replays.{machine-kept}
use Rattle.cell_machine.proofs.machine.Machine.any_step.Goals as goal

pub returns-clause-allowed : goal.returns-clause-allowed
returns-clause-allowed c =
    any-allowed _ c.args.self.now c.self.invariant.0.state (machine-replayed _ _ _ _ _ c.self.invariant.0 c.self.view_is)
    (let e = ap (λ (n : Ran). n.setup.budget) c.self.view_is in let l = ap (λ (n : Ran). length n.steps) c.self.view_is in omega arith)
    (c.first_step.ensures c.self.inside.memory c.self.invariant.0.state (rw c.deref.ensures.value c.self.invariant.0.shown))

pub returns-clause-none : goal.returns-clause-none
returns-clause-none c =
    any-none _ _ c.args.self.now c.self.invariant.0.state c.self.invariant.0.shown (machine-replayed _ _ _ _ _ c.self.invariant.0 c.self.view_is)
    (let e = ap (λ (n : Ran). n.setup.budget) c.self.view_is in let l = ap (λ (n : Ran). length n.steps) c.self.view_is in omega arith)
    (c.first_step.ensures c.self.inside.memory c.self.invariant.0.state (rw c.deref.ensures.value c.self.invariant.0.shown))

pub first_step-requires-clause-kept : goal.first_step-requires-clause-kept
first_step-requires-clause-kept c = rw c.deref.ensures.value (machine-kept c.self.invariant.0)
