use Rattle.std.proofs.Common.{◌≡◌, ◌≤◌, ◌+◌, ◌*◌, ◌++◌, length, take, Some}
use Rattle.std.specs.List.{flat_map}
use Rattle.cell_machine.specs.State.{State}
use Rattle.cell_machine.specs.Run.{state_of}
use Rattle.state_lines.specs.Lines.{show_line}
use Rattle.cell_report.proofs.shows.put_shows.Given as goal

-- the lines so far
abbrev pub invariant-loop-show : goal.invariant-loop-show
invariant-loop-show l = record {
  text : (M : State) → state_of l.m ≡ Some M → l.out.items ≡ l.fn.out.items ++ flat_map (show_line M) (take l.show-index l.m.setup.shows);
  short : length l.out.items ≤ length l.fn.out.items + 8216 * l.show-index;
}
