use Rattle.std.proofs.Common.{◌≡◌, map}
use Rattle.std.specs.Prelude.{find, nat_le}
use Rattle.mfc_queue.proofs.Walks.{numbers_from}
use Rattle.mfc_queue.proofs.Queue.outstanding_from.Given as goal

abbrev pub invariant-loop-i : goal.invariant-loop-i
invariant-loop-i l = find (nat_le l.cmd) (map (λ h. h.cmd) l.self.held.items) ≡ find (nat_le l.cmd) (numbers_from l.self.held.items l.i)
