use Rattle.std.proofs.Common.{◌≡◌, ◌||◌, ◌&&◌, take}
use Rattle.std.specs.List.{list_any}
use Rattle.order_sets.specs.declared.facts.At.{At}
use Rattle.order_sets.specs.Stands.{has_at}
use Rattle.race_order.specs.declared.roles.QueueRole.{QueueRole}
use Rattle.race_order.specs.declared.roles.QueueRole.TheVariants.{Waits}
use Rattle.race_order.specs.Passes.{is_ahead}
use Rattle.race_order.specs.Tables.{same_role, sets_have, AreOf}
use Rattle.race_order.proofs.passes.put_waits.Given as goal

abbrev pub invariant-loop-d : goal.invariant-loop-d
invariant-loop-d l = record {
  has : (r : QueueRole) (at : At) → sets_have l.sets r at ≡ (sets_have l.fn.sets r at || list_any (λ d. is_ahead l.c d && (same_role (Waits d.spe d.cmd) r && has_at l.known at)) (take l.d-index l.next));
  chains : AreOf (l.known.chains) l.sets;
}
