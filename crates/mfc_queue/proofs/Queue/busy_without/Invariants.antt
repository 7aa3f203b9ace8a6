use Rattle.std.proofs.Common.{◌≡◌, ◌==◌, map, List, not}
use Rattle.std.specs.Prelude.{fold, filter}
use Rattle.mfc_command.specs.Order.{with_group}
use Rattle.mfc_queue.specs.Calls.{Call, issued}
use Rattle.mfc_queue.specs.Stands.{StandsFor}
use Rattle.mfc_queue.proofs.Walks.{numbers_from}
use Rattle.mfc_queue.proofs.Queue.busy_without.Given as goal

abbrev pub invariant-loop-i : goal.invariant-loop-i
invariant-loop-i l = (calls : List Call) → StandsFor l.self calls
    → fold (with_group (issued calls)) 0 (filter (λ k. not (l.cmd == k)) (map (λ h. h.cmd) l.self.held.items)) ≡ fold (with_group (issued calls)) l.bits (filter (λ k. not (l.cmd == k)) (numbers_from l.self.held.items l.i))
