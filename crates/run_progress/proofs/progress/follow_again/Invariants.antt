use Rattle.std.proofs.Common.{◌≡◌, length}
use Rattle.run_progress.specs.Made.{made_of}
use Rattle.run_progress.specs.Tracks.{Follows}
use Rattle.run_progress.proofs.Replays.{first_of}
use Rattle.run_progress.proofs.progress.follow_again.Given as goal

-- the first steps were made again
abbrev pub invariant-loop-step : goal.invariant-loop-step
invariant-loop-step l =
    record {
      made : l.again ≡ first_of l.machine l.step-index;
      follows : Follows (length l.machine.setup.entries) (made_of l.again) l.tracks;
    }
