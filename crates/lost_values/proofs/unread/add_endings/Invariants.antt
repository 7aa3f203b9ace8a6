use Rattle.std.proofs.Common.{◌≡◌, ◌++◌, map, take}
use Rattle.lost_values.specs.Keeping.{ending_of}
use Rattle.lost_values.proofs.unread.add_endings.Given as goal

abbrev pub invariant-loop-value : goal.invariant-loop-value
invariant-loop-value l = l.losses.items ≡ l.initial.losses.items ++ map ending_of (take l.value-index l.values)
