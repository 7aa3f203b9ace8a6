use Rattle.std.proofs.Common.{rules, refl, inl, inr}
use Rattle.cell_trace.proofs.NextSteps.{step_there}
use Rattle.cell_trace.proofs.allowed.step_at.Goals as goal

pub returns-then-eq : goal.returns-then-eq
returns-then-eq c = λ M at le.
    step_there c.args.m.now c.args.actor c.args.place c.args.first _ _ M c.requires.later c.requires.first c.in_ok-step.ensures.picked (inl (search (rules, c.eq.ensures, c.if-eq.true), refl)) at le

pub returns-else-eq : goal.returns-else-eq
returns-else-eq c = λ M at le.
    step_there c.args.m.now c.args.actor c.args.place c.args.first _ _ M c.requires.later c.requires.first c.in_ok-step.ensures.picked (inr (λ same. search (rules, c.eq.ensures, c.if-eq.false, same), refl)) at le
