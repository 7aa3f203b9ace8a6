use Rattle.std.proofs.Common.{◌≡◌, ◌++◌, drop}
use Rattle.trace_commands.specs.Ranges.{ranges, ranges_from}
use Rattle.trace_commands.proofs.ranges.put_ranges.Given as goal

-- what was written, in front of the ranges from here on, is the ranges of all
abbrev pub invariant-loop-is_marked : goal.invariant-loop-is_marked
invariant-loop-is_marked l = record {
  place : l.place ≡ l.is_marked-index;
  text : l.out.items ++ ranges_from l.layout l.place l.last (drop l.is_marked-index l.marks) ≡ l.fn.out.items ++ ranges l.layout l.marks;
}
