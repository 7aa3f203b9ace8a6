use Rattle.std.proofs.Common.{◌≡◌, take}
use Rattle.cell_commands.proofs.checking.difference.Given as goal

-- so far they are the same
abbrev pub invariant-loop-at : goal.invariant-loop-at
invariant-loop-at l = take l.at l.found ≡ take l.at l.wanted
