use Rattle.std.proofs.Common.{◌≡◌, map, List}
use Rattle.std.specs.List.{list_any}
use Rattle.mfc_queue.specs.Calls.{Call, issued, is_of_tag}
use Rattle.mfc_queue.specs.Stands.{StandsFor}
use Rattle.mfc_queue.proofs.Walks.{numbers_from}
use Rattle.mfc_queue.proofs.Queue.outstanding.Given as goal

abbrev pub invariant-loop-i : goal.invariant-loop-i
invariant-loop-i l = (calls : List Call) → StandsFor l.self calls → list_any (is_of_tag (issued calls) l.tag) (map (λ h. h.cmd) l.self.held.items) ≡ list_any (is_of_tag (issued calls) l.tag) (numbers_from l.self.held.items l.i)
