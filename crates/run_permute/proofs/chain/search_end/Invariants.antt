use Rattle.std.proofs.Common.{◌-◌, ◌<◌, ◌≤◌, length, get_or}
use Rattle.reorder_laws.specs.OrderedLaws.{IsOrdered}
use Rattle.run_permute.proofs.chain.search_end.Given as goal

abbrev pub ghost-is_before : goal.ghost-is_before
ghost-is_before g a = g.here

abbrev pub invariant-loop-low : goal.invariant-loop-low
invariant-loop-low g l =
    record {
      meet : l.low ≤ l.high;
      within : l.high ≤ length l.chain;
      before : 0 < l.low → IsOrdered g.here.run (get_or l.chain (l.low - 1) 0) g.here.place;
      after : l.high < length l.chain → IsOrdered g.here.run (get_or l.chain l.high 0) g.here.place → ⊥;
    }

abbrev pub decreases-loop-low : goal.decreases-loop-low
decreases-loop-low g l = l.high - l.low
