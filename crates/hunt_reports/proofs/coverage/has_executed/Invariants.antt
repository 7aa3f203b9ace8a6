use Rattle.std.proofs.Common.{◌≡◌, length}
use Rattle.std.specs.List.{list_any}
use Rattle.hunt_reports.specs.Coverage.{executes}
use Rattle.hunt_reports.proofs.coverage.has_executed.Given as goal

abbrev pub invariant-loop-placing : goal.invariant-loop-placing
invariant-loop-placing l =
    list_any (executes l.places.sources.items l.executed l.name l.at) l.rest ≡ list_any (executes l.places.sources.items l.executed l.name l.at) l.places.placings.items

abbrev pub decreases-loop-placing : goal.decreases-loop-placing
decreases-loop-placing l = length l.rest
