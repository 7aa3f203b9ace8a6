use Rattle.std.proofs.Common.{length, take, ◌-◌, ◌≡◌, ◌≤◌}
use Rattle.cell_base.specs.Bytes.{put}
use Rattle.main_memory.proofs.Memory.write_pages.Given as goal

abbrev pub invariant-loop-done : goal.invariant-loop-done
invariant-loop-done l = record { within : l.done ≤ length l.from; written : l.self ≡ put l.initial.self l.at (take l.done l.from); same : length l.self ≡ length l.initial.self }

abbrev pub decreases-loop-done : goal.decreases-loop-done
decreases-loop-done l = length l.from - l.done
