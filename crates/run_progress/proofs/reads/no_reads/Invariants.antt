use Rattle.std.proofs.Common.{◌≡◌, length}
use Rattle.run_progress.specs.Tracks.{AreNone}
use Rattle.run_progress.proofs.reads.no_reads.Given as goal

abbrev pub invariant-loop : goal.invariant-loop
invariant-loop l =
    record {
      none : AreNone l.reads.items;
      many : length l.reads.items ≡ l.counter;
    }
