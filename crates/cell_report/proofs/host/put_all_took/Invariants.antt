use Rattle.std.proofs.Common.{◌≡◌, ◌≤◌, ◌+◌, ◌*◌, ◌++◌, length, take}
use Rattle.std.specs.List.{flat_map}
use Rattle.cell_report.specs.States.{took_line}
use Rattle.cell_report.proofs.host.put_all_took.Given as goal

-- the lines so far
abbrev pub invariant-loop-value : goal.invariant-loop-value
invariant-loop-value l = record {
  text : l.out.items ≡ l.fn.out.items ++ flat_map took_line (take l.value-index l.took);
  short : length l.out.items ≤ length l.fn.out.items + 21 * l.value-index;
}
