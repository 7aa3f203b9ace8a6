use Rattle.std.proofs.Common.{◌≡◌, take}
use Rattle.trace_commands.specs.Choices.{with_choices}
use Rattle.trace_commands.proofs.choosing.run_chosen.Given as goal

-- the steps that the numbers so far choose were made
abbrev pub invariant-loop-number : goal.invariant-loop-number
invariant-loop-number l = l.machine ≡ with_choices l.fn.machine (take l.number-index l.numbers)
