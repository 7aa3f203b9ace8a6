use Rattle.std.proofs.Common.{◌≡◌, ◌≤◌, ◌++◌, drop, length}
use Rattle.hunt_reports.specs.Waits.{running_from}
use Rattle.hunt_reports.proofs.waits.running_of.Given as goal

abbrev pub invariant-loop-ended : goal.invariant-loop-ended
invariant-loop-ended l = record {
  number : l.p ≡ l.ended-index;
  few : length l.running.items ≤ l.ended-index;
  whole : l.running.items ++ running_from l.p (drop l.ended-index l.spes) ≡ running_from 0 l.spes;
}
