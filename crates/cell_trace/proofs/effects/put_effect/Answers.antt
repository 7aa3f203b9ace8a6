use Rattle.std.proofs.Common.{◌∙◌, ap, sym}
use Rattle.cell_machine.specs.Run.{state_of}
use Rattle.cell_trace.specs.Effects.{line_between}
use Rattle.cell_trace.proofs.Lemmas.{line_none, line_is, made_of, is_there, told_some, told_none, text_some, text_none}
use Rattle.cell_trace.proofs.effects.put_effect.Goals as goal

pub returns-in_default-clause-told : goal.returns-in_default-clause-told
returns-in_default-clause-told c = told_none _ (line_none line_between c.args.m.now c.args.step (sym c.effect.ensures.effect ∙ c.in_default.is))

pub returns-in_default-clause-line : goal.returns-in_default-clause-line
returns-in_default-clause-line c = text_none _ _ (line_none line_between c.args.m.now c.args.step (sym c.effect.ensures.effect ∙ c.in_default.is))

pub returns-clause-told : goal.returns-clause-told
returns-clause-told c =
    let grew = made_of c.step.result _ _ (sym c.is_err.ensures.value ∙ c.if-is_err.false) c.step.ensures.made in
    told_some _ _ (line_is c.args.m.now c.args.step c.in-Some.effect c.look_before-before.result c.look_after-after.result (c.effect.ensures.allowed.0 (is_there _ _ c.in-Some.is))
    (sym c.effect.ensures.effect ∙ c.in-Some.is) c.look_before-before.ensures (λ N at. c.look_after-after.ensures N (ap state_of grew ∙ at)))

pub returns-clause-line : goal.returns-clause-line
returns-clause-line c =
    let grew = made_of c.step.result _ _ (sym c.is_err.ensures.value ∙ c.if-is_err.false) c.step.ensures.made in
    text_some _ _ _ _ c.in_ok-put_line.ensures (line_is c.args.m.now c.args.step c.in-Some.effect c.look_before-before.result c.look_after-after.result (c.effect.ensures.allowed.0 (is_there _ _ c.in-Some.is))
    (sym c.effect.ensures.effect ∙ c.in-Some.is) c.look_before-before.ensures (λ N at. c.look_after-after.ensures N (ap state_of grew ∙ at)))
