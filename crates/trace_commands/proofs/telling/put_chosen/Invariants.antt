use Rattle.std.proofs.Common.{◌≡◌, take}
use Rattle.trace_commands.specs.Choices.{with_choices}
use Rattle.trace_commands.specs.Told.{AddsChosen}
use Rattle.trace_commands.proofs.telling.put_chosen.Given as goal

-- the steps that were chosen so far were made, and their lines were added
abbrev pub invariant-loop-number : goal.invariant-loop-number
invariant-loop-number l = record {
  lines : AddsChosen l.fn.machine l.machine l.fn.out.items l.out.items;
  chosen : l.machine ≡ with_choices l.fn.machine (take l.number-index l.numbers);
}
