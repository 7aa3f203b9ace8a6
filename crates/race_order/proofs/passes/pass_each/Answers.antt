use Rattle.std.proofs.Common.{rules, ◌<◌, length}
use Rattle.race_order.specs.Passes.{done_any}
use Rattle.race_order.specs.Tables.{sets_have}
use Rattle.race_order.proofs.Moved.{one_more, up_done}
use Rattle.race_order.proofs.passes.pass_each.Goals as goal

pub loop-c-preserved : goal.loop-c-preserved
loop-c-preserved c =
    let next = c.args.next.now in
    let inside : c.loop-c.c-index < length next = search rules in
    record {
      has = one_more (λ g x. done_any g next x) next c.loop-c.c-index _ (sets_have c.args.sets.now) (sets_have c.loop-c.sets) (sets_have c.pass_complete.new.sets) (up_done next) inside c.loop-c.invariant.has c.in_ok-pass_complete.ensures.has;
      chains = search rules;
      spare = search rules;
    }
