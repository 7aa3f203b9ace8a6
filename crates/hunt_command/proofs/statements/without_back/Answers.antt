use Rattle.std.proofs.Common.{sym, ◌∙◌, arith}
use Rattle.hunt_command.proofs.StatementLaws.{back_step, back_stop, back_gone}
use Rattle.hunt_command.proofs.statements.without_back.Goals as goal

pub loop-end-preserved : goal.loop-end-preserved
loop-end-preserved c =
    let some = c.loop-end-test.true in
    let within = c.loop-end.invariant.within in
    let step = back_step c.args.text.now c.loop-end.end (omega (arith, some)) within (sym c.is_margin.ensures ∙ c.if-is_margin.true) in
    record { within = omega (arith, within); same = sym step ∙ c.loop-end.invariant.same }

pub returns-else-is_margin : goal.returns-else-is_margin
returns-else-is_margin c =
    let some = c.loop-end-test.true in
    sym (back_stop c.args.text.now c.loop-end.end (omega (arith, some)) c.loop-end.invariant.within (sym c.is_margin.ensures ∙ c.if-is_margin.false)) ∙ c.loop-end.invariant.same

pub returns : goal.returns
returns c =
    let none = c.loop-end-test.false in
    back_gone c.args.text.now c.loop-end.end (omega (arith, none)) c.loop-end.invariant.same
