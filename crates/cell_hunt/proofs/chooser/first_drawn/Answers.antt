use Rattle.std.proofs.Common.{◌∙◌, arith, sym}
use Rattle.cell_hunt.proofs.Walking.{none-left, some-found, walk-found, walk-on, walk-over}
use Rattle.cell_hunt.proofs.chooser.first_drawn.Goals as goal

pub returns-then-is_some-clause-drawn : goal.returns-then-is_some-clause-drawn
returns-then-is_some-clause-drawn c =
    let some = some-found c.drawn-step.result (sym c.is_some.ensures ∙ c.if-is_some.true) in
    walk-found c.args.machine.now c.args.strategy c.args.word c.loop.counter c.args.words.now c.loop.words c.drawn-step.new.words c.drawn-step.result some.0
    c.loop-test.true c.drawn-step.ensures.step some.1 c.drawn-step.ensures.words c.loop.invariant

pub loop-preserved : goal.loop-preserved
loop-preserved c =
    let none = none-left c.drawn-step.result (sym c.is_some.ensures ∙ c.if-is_some.false) in
    walk-on c.args.machine.now c.args.strategy c.args.word c.loop.counter c.args.words.now c.loop.words c.drawn-step.new.words c.drawn-step.result
    c.loop-test.true c.drawn-step.ensures.step none c.drawn-step.ensures.words c.loop.invariant

pub returns-clause-drawn : goal.returns-clause-drawn
returns-clause-drawn c =
    walk-over c.args.machine.now c.args.strategy c.args.word c.loop.counter c.args.words.now c.loop.words (omega (arith, c.loop-test.false, c.loop.auto.counter-end)) c.loop.invariant
