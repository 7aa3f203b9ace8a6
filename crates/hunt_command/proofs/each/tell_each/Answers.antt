use Rattle.hunt_command.proofs.HuntsLaws.{told_none, told_more}
use Rattle.hunt_command.proofs.each.tell_each.Goals as goal

pub loop-place-init : goal.loop-place-init
loop-place-init c = told_none c.args.setup.now c.args.seed c.args.from c.new-out.result.items c.new-out.ensures.items

pub loop-place-preserved : goal.loop-place-preserved
loop-place-preserved c =
    told_more c.args.setup.now c.args.seed c.args.from c.loop-place.place c.loop-place.out.items c.put_line.new.out.items c.loop-place.is_racy c.is_racy-is_racy.result c.in_ok-told.told
    c.in_ok-told.ensures c.in_ok-put_line.ensures c.is_racy-is_racy.ensures c.loop-place.invariant
