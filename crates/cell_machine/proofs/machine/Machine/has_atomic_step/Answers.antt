use Rattle.std.proofs.Common.{length, arith, ap, sym, ◌∙◌}
use Rattle.std.specs.Prelude.{is_some}
use Rattle.cell_base.specs.declared.steps.Step.TheVariants.{Atomic}
use Rattle.cell_machine.specs.Run.{Ran}
use Rattle.cell_machine.proofs.AnyStep.{machine-replayed, next_of-within}
use Rattle.cell_machine.proofs.machine.Machine.has_atomic_step.Goals as goal

pub returns : goal.returns
returns c =
    c.has_atomic_step.ensures c.self.inside.memory c.self.inside.host c.self.invariant.0.state (rw c.deref.ensures.value c.self.invariant.0.shown)
    ∙ sym (ap is_some (next_of-within c.args.self.now c.self.invariant.0.state (Atomic c.args.spe) (machine-replayed _ _ _ _ _ c.self.invariant.0 c.self.view_is)
    (let e = ap (λ (n : Ran). n.setup.budget) c.self.view_is in let l = ap (λ (n : Ran). length n.steps) c.self.view_is in omega arith)))
