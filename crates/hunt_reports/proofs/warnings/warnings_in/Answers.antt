use Rattle.std.proofs.Common.{[], subst}
use Rattle.hunt_reports.specs.Warnings.{AreTold}
use Rattle.hunt_reports.proofs.Ends.{take_past}
use Rattle.hunt_reports.proofs.Warned.{lost_more, none_warned, read_more}
use Rattle.hunt_reports.proofs.warnings.warnings_in.Goals as goal

pub loop-loss-init : goal.loop-loss-init
loop-loss-init c = none_warned c.args.run.now c.args.places.now _ c.new-warnings.ensures.items

pub loop-loss-preserved : goal.loop-loss-preserved
loop-loss-preserved c =
    lost_more c.args.run.now c.args.places.now c.args.losses.now c.loop-loss.loss-index _ c.loop-loss.warnings.items _ c.lost_of.result c.loop-loss-test.true c.loop-loss.invariant c.lost_of.ensures
    c.in_ok-take_lost.ensures

pub loop-read-init : goal.loop-read-init
loop-read-init c =
    subst (λ losses. AreTold c.args.run.now c.args.places.now losses [] c.loop-loss.warnings.items) (take_past c.args.losses.now c.loop-loss.loss-index c.loop-loss-test.false) c.loop-loss.invariant

pub loop-read-preserved : goal.loop-read-preserved
loop-read-preserved c =
    read_more c.args.run.now c.args.places.now c.args.losses.now c.args.reads.now c.loop-read.read-index _ c.loop-read.warnings.items _ c.read_of.result c.loop-read-test.true c.loop-read.invariant
    c.read_of.ensures c.in_ok-take_read.ensures

pub returns : goal.returns
returns c =
    subst (λ reads. AreTold c.args.run.now c.args.places.now c.args.losses.now reads c.loop-read.warnings.items) (take_past c.args.reads.now c.loop-read.read-index c.loop-read-test.false) c.loop-read.invariant
