use Rattle.std.proofs.Common.{◌∙◌, ap, sym}
use Rattle.cell_machine.specs.Run.{state_of}
use Rattle.cell_trace.specs.Logs.{log_between}
use Rattle.cell_trace.proofs.Lemmas.{line_none, made_of, is_there, told_some, told_none, text_some, text_none}
use Rattle.cell_trace.proofs.LogLaws.{line_written}
use Rattle.cell_trace.proofs.logs.put_step.Goals as goal

pub returns-in_default-clause-told : goal.returns-in_default-clause-told
returns-in_default-clause-told c = told_none _ (line_none log_between c.args.m.now c.args.step (sym c.effect_of.ensures.effect ∙ c.in_default.is))

pub returns-in_default-clause-line : goal.returns-in_default-clause-line
returns-in_default-clause-line c = text_none _ _ (line_none log_between c.args.m.now c.args.step (sym c.effect_of.ensures.effect ∙ c.in_default.is))

pub returns-clause-told : goal.returns-clause-told
returns-clause-told c =
    let grew = made_of c.step.result _ _ (sym c.is_err.ensures.value ∙ c.if-is_err.false) c.step.ensures.made in
    let k = line_written c.args.m.now c.args.step c.in-Some.effect c.look_before-before.result c.as_slice.result.now c.args.out.now.items c.put_line.new.out.items
    (c.effect_of.ensures.allowed.0 (is_there _ _ c.in-Some.is)) (sym c.effect_of.ensures.effect ∙ c.in-Some.is) c.look_before-before.ensures
    (λ M at. c.as_slice.ensures.value ∙ c.in_ok-registers.ensures.registers M at) (λ N at. c.in_ok-put_line.ensures N (ap state_of grew ∙ at)) in
    told_some _ k.0 k.1

pub returns-clause-line : goal.returns-clause-line
returns-clause-line c =
    let grew = made_of c.step.result _ _ (sym c.is_err.ensures.value ∙ c.if-is_err.false) c.step.ensures.made in
    let k = line_written c.args.m.now c.args.step c.in-Some.effect c.look_before-before.result c.as_slice.result.now c.args.out.now.items c.put_line.new.out.items
    (c.effect_of.ensures.allowed.0 (is_there _ _ c.in-Some.is)) (sym c.effect_of.ensures.effect ∙ c.in-Some.is) c.look_before-before.ensures
    (λ M at. c.as_slice.ensures.value ∙ c.in_ok-registers.ensures.registers M at) (λ N at. c.in_ok-put_line.ensures N (ap state_of grew ∙ at)) in
    text_some _ _ k.0 _ k.2 k.1
