use Rattle.std.proofs.Common.{◌≡◌, take, reverse}
use Rattle.std.specs.List.{find}
use Rattle.std.specs.Option.{option_map}
use Rattle.hunt_reports.specs.Origins.{covers}
use Rattle.hunt_reports.proofs.origins.Places.owner.Given as goal

-- the last of the placings so far that covers the address
abbrev pub invariant-loop-placing : goal.invariant-loop-placing
invariant-loop-placing l = l.found ≡ option_map (λ g. g.placed) (find (covers l.self.sources.items l.spe l.at) (reverse (take l.placing-index l.self.placings.items)))
