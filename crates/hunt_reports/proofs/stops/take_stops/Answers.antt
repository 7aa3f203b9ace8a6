use Rattle.hunt_reports.specs.Stops.{ended_told}
use Rattle.hunt_reports.proofs.Lists.{flat_more}
use Rattle.hunt_reports.proofs.stops.take_stops.Goals as goal

pub loop-ended-preserved : goal.loop-ended-preserved
loop-ended-preserved c = λ M at.
    flat_more (ended_told c.args.places.now M.spes) _ _ _ c.args.endings.now c.loop-ended.ended-index _ c.loop-ended-test.true (c.loop-ended.invariant M at) (c.in_ok-take_site.ensures M at)
