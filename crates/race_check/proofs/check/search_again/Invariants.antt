use Rattle.std.proofs.Common.{◌≡◌}
use Rattle.race_check.specs.Searches.{IsClear, run_of}
use Rattle.race_check.proofs.Prefixes.{first_of}
use Rattle.race_check.proofs.check.search_again.Given as goal

-- the first steps were made again, and none of them races with an earlier one
abbrev pub invariant-loop-step : goal.invariant-loop-step
invariant-loop-step l =
    record {
      made : run_of l.search ≡ first_of l.m l.step-index;
      clear : IsClear l.search;
    }
