use Rattle.std.proofs.Common.{rules, ap, ◌∙◌}
use Rattle.race_order.specs.Lives.{lives_of}
use Rattle.race_order.proofs.LivesOf.{none_more}
use Rattle.race_order.proofs.lives.no_lives.Goals as goal

pub loop-preserved : goal.loop-preserved
loop-preserved c = record {
  long = search rules;
  none = λ p. ap (λ l. lives_of l p) c.in_ok-push.ensures.items ∙ none_more c.loop.lists.items c.new.result p c.new.ensures.items (c.loop.invariant.none p);
}
