use Rattle.std.proofs.Common.{◌≡◌, ◌==◌, map, drop}
use Rattle.std.specs.Prelude.{find}
use Rattle.std.specs.List.{list_any}
use Rattle.mfc_queue.proofs.Walks.{numbers_from}
use Rattle.mfc_queue.proofs.Queue.search.Given as goal

abbrev pub invariant-loop-i : goal.invariant-loop-i
invariant-loop-i l = record {
  none : list_any (λ n. n == l.cmd) (map (λ h. h.cmd) l.self.held.items) ≡ list_any (λ n. n == l.cmd) (numbers_from l.self.held.items l.i);
  first : find (λ h. h.cmd == l.cmd) l.self.held.items ≡ find (λ h. h.cmd == l.cmd) (drop l.i l.self.held.items);
}
