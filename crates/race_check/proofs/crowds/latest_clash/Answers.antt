use Rattle.race_check.specs.Walks.{IsOrdered}
use Rattle.race_check.proofs.CrowdLaws.{tells_all, tells_more, tells_none}
use Rattle.race_check.proofs.crowds.latest_clash.Goals as goal

pub loop-crowd-init : goal.loop-crowd-init
loop-crowd-init c = tells_none (IsOrdered c.args.walk.now.machine) c.args.new.now

pub loop-crowd-preserved : goal.loop-crowd-preserved
loop-crowd-preserved c =
    tells_more (IsOrdered c.args.walk.now.machine) c.args.new.now c.args.crowds.now c.loop-crowd.crowd-index c.crowd-item.result c.loop-crowd-test.true c.crowd-item.is c.loop-crowd.latest c.clash.result c.later-latest.result c.later-latest.ensures c.loop-crowd.invariant c.clash.ensures

pub returns : goal.returns
returns c = tells_all (IsOrdered c.args.walk.now.machine) c.args.new.now c.args.crowds.now c.loop-crowd.crowd-index c.loop-crowd.latest c.loop-crowd-test.false c.loop-crowd.invariant
