use Rattle.std.proofs.Common.{◌≡◌, map, take}
use Rattle.mfc_queue.specs.Sets.{set_of}
use Rattle.mfc_queue.proofs.groups_of.Given as goal

abbrev pub invariant-loop-i : goal.invariant-loop-i
invariant-loop-i l = l.bits ≡ set_of (map (λ h. h.command.tag) (take l.i l.held.items))
