use Rattle.std.proofs.Common.{◌≡◌}
use Rattle.run_walk.specs.Walks.{Stands, walked}
use Rattle.race_check.proofs.Prefixes.{first_of}
use Rattle.run_permute.specs.Settlings.{Follows}
use Rattle.run_permute.proofs.check.follow_again.Given as goal

-- the first steps were made again
abbrev pub invariant-loop-step : goal.invariant-loop-step
invariant-loop-step l =
    record {
      made : walked l.walk ≡ first_of l.m l.step-index;
      stands : Stands l.walk;
      follows : Follows (walked l.walk) l.settling;
    }

abbrev pub ghost-advance : goal.ghost-advance
ghost-advance a = walked a.self.now
