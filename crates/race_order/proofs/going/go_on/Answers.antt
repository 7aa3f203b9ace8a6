use Rattle.std.proofs.Common.{sym, ◌∙◌}
use Rattle.race_order.specs.Passes.{stall_any}
use Rattle.race_order.specs.Tables.{sets_have}
use Rattle.race_order.proofs.Moved.{still}
use Rattle.race_order.proofs.Untouched.{not_moved, not_stalled}
use Rattle.race_order.proofs.going.go_on.Goals as goal

pub returns-then-not-touches-clause-has : goal.returns-then-not-touches-clause-has
returns-then-not-touches-clause-has c =
    still (λ g. stall_any g c.args.brought.now.step c.args.brought.now.effect.now.note c.args.live.now) (sets_have c.args.sets.now) (λ g. not_stalled g c.args.live.now c.args.brought.now.step c.args.brought.now.effect.now.note (sym (c.requires.target c.args.live.now) ∙ (sym c.touches.ensures ∙ c.if-not-touches.true)))

pub returns-then-not-touches-clause-next : goal.returns-then-not-touches-clause-next
returns-then-not-touches-clause-next c =
    sym (not_moved c.args.live.now c.args.brought.now.step c.args.brought.now.effect.now.note (sym (c.requires.target c.args.live.now) ∙ (sym c.touches.ensures ∙ c.if-not-touches.true)))
