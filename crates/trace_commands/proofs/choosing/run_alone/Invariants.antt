use Rattle.std.proofs.Common.{◌≡◌, length}
use Rattle.std.specs.List.{range_with_len}
use Rattle.trace_commands.specs.Choices.{with_choices}
use Rattle.trace_commands.proofs.choosing.run_alone.Given as goal

-- each number so far chose a step
abbrev pub invariant-loop-number : goal.invariant-loop-number
invariant-loop-number l = record {
  setup : l.machine.setup ≡ l.fn.machine.setup;
  chosen : l.machine ≡ with_choices l.fn.machine (range_with_len 0 l.number);
  count : length l.machine.steps ≡ l.number;
}
