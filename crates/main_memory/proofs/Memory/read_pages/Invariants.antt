use Rattle.std.proofs.Common.{length, take, slice_range, ◌-◌, ◌≡◌, ◌+◌, ◌≤◌}
use Rattle.main_memory.proofs.Memory.read_pages.Given as goal

abbrev pub invariant-loop-done : goal.invariant-loop-done
invariant-loop-done l = record { within : l.done ≤ length l.into; copied : take l.done l.into ≡ slice_range l.self l.at (l.at + l.done) }

abbrev pub decreases-loop-done : goal.decreases-loop-done
decreases-loop-done l = length l.into - l.done
