use Rattle.std.proofs.Common.{sym, ap, ◌∙◌, arith}
use Rattle.cell_machine.specs.Run.{Ran}
use Rattle.cell_machine.proofs.Replays.{machine-state}
use Rattle.cell_machine.proofs.Choices.{can_go_on, ended_at}
use Rattle.cell_machine.proofs.Replays.{machine-kept}
use Rattle.cell_machine.proofs.machine.Machine.end.Goals as goal

pub returns-then-len-budget : goal.returns-then-len-budget
returns-then-len-budget c = machine-state _ _ _ _ _ _ c.self.invariant.0 c.self.view_is (λ M shows long.
    (can_go_on M c.first_step.result (c.first_step.ensures c.self.inside.memory M (rw c.deref.ensures.value shows)) (sym c.is_some.ensures ∙ c.if-is_some.true), let e = ap (λ (n : Ran). n.setup.budget) c.self.view_is in omega arith))

pub returns-else-len-budget : goal.returns-else-len-budget
returns-else-len-budget c = machine-state _ _ _ _ _ _ c.self.invariant.0 c.self.view_is (λ M shows long.
    (can_go_on M c.first_step.result (c.first_step.ensures c.self.inside.memory M (rw c.deref.ensures.value shows)) (sym c.is_some.ensures ∙ c.if-is_some.true), let e = ap (λ (n : Ran). n.setup.budget) c.self.view_is in omega arith))

pub returns-then-is_quiet : goal.returns-then-is_quiet
returns-then-is_quiet c = machine-state _ _ _ _ _ _ c.self.invariant.0 c.self.view_is (λ M shows long.
    (ended_at _ M c.first_step.result shows (c.first_step.ensures c.self.inside.memory M (rw c.deref.ensures.value shows)) (sym c.is_some.ensures ∙ c.if-is_some.false), sym (c.is_quiet.ensures c.self.inside.memory c.self.inside.host M (rw c.deref-else-is_some.ensures.value shows)) ∙ c.if-is_quiet.true))

pub returns-else-is_quiet : goal.returns-else-is_quiet
returns-else-is_quiet c = machine-state _ _ _ _ _ _ c.self.invariant.0 c.self.view_is (λ M shows long.
    (ended_at _ M c.first_step.result shows (c.first_step.ensures c.self.inside.memory M (rw c.deref.ensures.value shows)) (sym c.is_some.ensures ∙ c.if-is_some.false), sym (c.is_quiet.ensures c.self.inside.memory c.self.inside.host M (rw c.deref-else-is_some.ensures.value shows)) ∙ c.if-is_quiet.false))

pub first_step-requires-clause-kept : goal.first_step-requires-clause-kept
first_step-requires-clause-kept c = rw c.deref.ensures.value (machine-kept c.self.invariant.0)
