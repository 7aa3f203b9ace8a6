use Rattle.std.proofs.Common.{◌≡◌, ◌||◌, true, false, sym, ap, ◌∙◌}
use Rattle.race_order.specs.Lives.{is_touched}
use Rattle.race_order.specs.Tables.{sets_have}
use Rattle.race_order.specs.Bringing.{has_brought}
use Rattle.race_order.proofs.Moved.{or_none}
use Rattle.race_order.proofs.Entered.{touch_is}
use Rattle.race_order.proofs.Small.{and-off}
use Rattle.race_order.proofs.lives.touch.Goals as goal

pub returns-then-not-touches-clause-has : goal.returns-then-not-touches-clause-has
returns-then-not-touches-clause-has c = λ r at.
    let l = c.args.live.now in
    let b = c.args.brought.now in
    let untouched : is_touched l b.step b.effect.now.note ≡ false = sym (c.requires.target l) ∙ (sym c.touches.ensures ∙ c.if-not-touches.true) in
    or_none (sets_have c.args.sets.now r at) ∙ ap (λ x. sets_have c.args.sets.now r at || x) (sym (and-off _ _ untouched))

pub returns-clause-has : goal.returns-clause-has
returns-clause-has c = λ r at.
    let l = c.args.live.now in
    let b = c.args.brought.now in
    let touched : is_touched l b.step b.effect.now.note ≡ true = sym (c.requires.target l) ∙ (sym c.touches.ensures ∙ c.if-not-touches.false) in
    c.in_ok-enter.ensures.has r at ∙ ap (λ x. sets_have c.args.sets.now r at || x) (touch_is b.spes b.step b.effect.now.note (has_brought c.args.brought.now) r at l _ c.after_step-next.ensures touched)
