use Rattle.std.proofs.Common.{rules}
use Rattle.order_sets.specs.Stands.{has_at}
use Rattle.race_order.specs.declared.roles.QueueRole.TheVariants.{Fixed}
use Rattle.race_order.specs.Ordering.{has_bit}
use Rattle.race_order.specs.Tables.{sets_have}
use Rattle.race_order.proofs.Tags.{none_picked, one_picked}
use Rattle.race_order.proofs.gathering.gather_fixed.Goals as goal

pub loop-tag-init : goal.loop-tag-init
loop-tag-init c = record { has = λ at. none_picked (has_bit c.args.groups) (Fixed c.args.spe) (λ r. sets_have c.args.sets.now r at) (has_at c.args.known.now at); chains = search rules }

pub loop-tag-preserved : goal.loop-tag-preserved
loop-tag-preserved c = record {
  has = λ at.
      one_picked (has_bit c.args.groups) (Fixed c.args.spe) (λ r. sets_have c.args.sets.now r at) c.loop-tag.tag (has_at c.args.known.now at) (has_at c.loop-tag.known at) _ (c.loop-tag.invariant.has at) (c.in_ok-gather_bit.ensures.has at);
  chains = search rules;
}
