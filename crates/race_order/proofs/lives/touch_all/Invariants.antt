use Rattle.std.proofs.Common.{◌≡◌, ◌||◌, ◌+◌, ◌*◌, take}
use Rattle.std.specs.List.{list_any}
use Rattle.order_sets.specs.declared.facts.At.{At}
use Rattle.race_order.specs.declared.roles.QueueRole.{QueueRole}
use Rattle.race_order.specs.Bringing.{has_brought}
use Rattle.race_order.specs.Lives.{touch_brings}
use Rattle.race_order.specs.Tables.{sets_have, AreOf}
use Rattle.race_order.proofs.lives.touch_all.Given as goal

abbrev pub invariant-loop-live : goal.invariant-loop-live
invariant-loop-live l = record {
  has : (r : QueueRole) (at : At) → sets_have l.sets r at ≡ (sets_have l.fn.sets r at || list_any (touch_brings l.brought.spes l.brought.step l.brought.effect.now.note (has_brought l.brought) r at) (take l.live-index l.lives));
  chains : AreOf (3 * l.brought.spes + 1) l.sets;
}
