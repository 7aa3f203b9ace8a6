use Rattle.std.proofs.Common.{rules, ◌<◌, ◌&&◌, length}
use Rattle.order_sets.specs.Stands.{has_at}
use Rattle.race_order.specs.declared.lives.Live.{Live}
use Rattle.race_order.specs.declared.roles.QueueRole.TheVariants.{Waits}
use Rattle.race_order.specs.Passes.{is_ahead}
use Rattle.race_order.specs.Tables.{same_role, sets_have}
use Rattle.race_order.proofs.Growing.{one_more}
use Rattle.race_order.proofs.passes.put_waits.Goals as goal

pub loop-d-preserved : goal.loop-d-preserved
loop-d-preserved c =
    let inside : c.loop-d.d-index < length c.args.next.now = search rules in
    record {
      has = λ r at.
          one_more (λ (d : Live). is_ahead c.args.c.now d && (same_role (Waits d.spe d.cmd) r && has_at c.args.known.now at)) c.args.next.now c.loop-d.d-index _ (sets_have c.args.sets.now r at) (sets_have c.loop-d.sets r at) (sets_have c.put_ahead.new.sets r at) inside (c.loop-d.invariant.has r at) (c.in_ok-put_ahead.ensures.has r at);
      chains = search rules;
    }
