use Rattle.std.proofs.Common.{ap, ◌∙◌}
use Rattle.order_sets.specs.Holds.{in_part}
use Rattle.order_sets.proofs.SetLaws.{taken_in, left}
use Rattle.order_sets.proofs.parts.grown.Goals as goal
use Rattle.order_sets.proofs.parts.grown.Goals.{then-touch, else-touch}

pub loop-p-preserved : goal.loop-p-preserved
loop-p-preserved c = λ at.
    elim c.if-touch.branch [
      | then-touch w ↦ taken_in (in_part at) c.args.part c.loop-p.whole c.if-touch.whole c.p-item.result c.args.parts.now c.loop-p.p-index c.loop-p-test.true c.p-item.is (ap (in_part at) w.whole-is ∙ w.merged-whole.ensures at) (c.loop-p.invariant at)
      | else-touch w ↦ left (in_part at) c.args.part c.loop-p.whole c.if-touch.whole c.p-item.result c.args.parts.now c.loop-p.p-index c.loop-p-test.true c.p-item.is w.whole-is (c.loop-p.invariant at)
    ]
