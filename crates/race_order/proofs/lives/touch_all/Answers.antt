use Rattle.std.proofs.Common.{rules, ◌<◌, length, ◌||◌, sym, ap, ◌∙◌}
use Rattle.race_order.specs.Bringing.{has_brought}
use Rattle.race_order.specs.Lives.{touch_brings}
use Rattle.race_order.specs.Tables.{sets_have}
use Rattle.race_order.proofs.Growing.{one_more}
use Rattle.race_order.proofs.Moved.{or_none}
use Rattle.race_order.proofs.Passed.{none_any}
use Rattle.race_order.proofs.Small.{and-off}
use Rattle.race_order.proofs.lives.touch_all.Goals as goal

pub loop-live-preserved : goal.loop-live-preserved
loop-live-preserved c =
    let b = c.args.brought.now in
    let inside : c.loop-live.live-index < length c.args.lives.now = search rules in
    record {
      has = λ r at.
          one_more (touch_brings b.spes b.step b.effect.now.note (has_brought c.args.brought.now) r at) c.args.lives.now c.loop-live.live-index _ (sets_have c.args.sets.now r at) (sets_have c.loop-live.sets r at) (sets_have c.touch.new.sets r at) inside (c.loop-live.invariant.has r at) (c.in_ok-touch.ensures.has r at);
      chains = search rules;
    }

pub returns-then-not-may_touch-clause-has : goal.returns-then-not-may_touch-clause-has
returns-then-not-may_touch-clause-has c = λ r at.
    let b = c.args.brought.now in
    or_none (sets_have c.args.sets.now r at)
    ∙ ap (λ x. sets_have c.args.sets.now r at || x)
    (sym (none_any (touch_brings b.spes b.step b.effect.now.note (has_brought c.args.brought.now) r at) c.args.lives.now (λ l. and-off _ _ (sym (c.target_of-target.ensures l) ∙ c.may_touch.ensures c.if-not-may_touch.true l))))
